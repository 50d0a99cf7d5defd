-- What a compression has done, and one mark more.
use Rattle.std.proofs.Common.{ℕ, ◌≡◌, ◌<◌, ◌≤◌, ◌++◌, List, [], ◌∷◌, length, Option, None, Some, ap, sym, ◌∙◌, refl, subst, inl, inr, append_assoc, append-nil, Bool}
use Rattle.std.proofs.lemmas.Bool.{cases_lt}
use Rattle.bl_model.specs.declared.operation.Reply.{Reply}
use Rattle.bl_page.specs.declared.page.Page.{Page}
use Rattle.bl_page.specs.declared.page.Page.TheVariants.{Inner as InnerPage}
use Rattle.bl_page.specs.declared.page.Inner.{Inner}
use Rattle.bl_page.specs.declared.machine.Missed.{Missed}
use Rattle.bl_page.specs.declared.machine.Missed.TheVariants as missed
use Rattle.bl_page.specs.Machine.{Act}
use Rattle.bl_page.specs.Machine.Act.{Get, Put, Latch, Retire, Miss}
use Rattle.bl_rearrange.specs.Rearranged.{pairs_of, high_of}
use Rattle.bl_rearrange.specs.Neighbours.{AreNeighbours}
use Rattle.bl_page.specs.Nodes.{Covers, node_of, roots_of}
use Rattle.bl_rearrange.specs.declared.sides.Side.{Side}
use Rattle.bl_rearrange.specs.declared.sides.Side.TheVariants as side
use Rattle.bl_claims.specs.Trails.{Mark, Trail}
use Rattle.bl_claims.specs.Meanings.{writes_in, writes_of, Unwritten}
use Rattle.bl_tree_worlds.proofs.Meant.{writes_of-append, unwritten_since, unwritten_now, none_written, unwritten_on, got_on, got_last}
use Rattle.bl_proc_steps.specs.declared.acts.Seen.{Seen}
use Rattle.bl_proc_steps.specs.declared.acts.Seen.TheVariants as seen
use Rattle.bl_answers.specs.declared.answers.Hint.{Hint}
use Rattle.bl_answers.specs.declared.answers.Hint.TheVariants as post
use Rattle.bl_proc_routes.specs.declared.routes.Step.TheVariants.{Here}
use Rattle.bl_rearrange.specs.declared.families.Siblings.{Siblings}
use Rattle.bl_rearrange.specs.declared.families.Family.{Family}
use Rattle.bl_proc_compress.specs.declared.compression.Puts.{Puts}
use Rattle.bl_proc_compress.specs.declared.compression.Decision.{Decision}
use Rattle.bl_proc_compress.specs.declared.compression.Decision.TheVariants as decision
use Rattle.bl_proc_compress.specs.declared.compression.Compression.{Compression}
use Rattle.bl_proc_compress.specs.declared.compression.Compression.TheVariants.{LatchingLeft, LatchedLeft, LatchingRight, LatchedRight, PuttingFirst, PuttingParent, PuttingLast, Retiring, OpeningRight, OpeningLeft, OpeningParent}
use Rattle.bl_proc_compress.specs.declared.compression.Compressed.TheVariants as step
use Rattle.bl_proc_routes.specs.Routes.{Leads}
use Rattle.bl_proc_compress.specs.Compressions.{put_of, other, after_puts, IsFew, Links, Decides, compression_next}
use Rattle.bl_proc_compress.specs.declared.compress.CompressReply.{CompressReply}
use Rattle.bl_proc_compress.specs.declared.compress.CompressReply.TheVariants as reply
use Rattle.bl_proc_compress.specs.declared.compress.CompressStage.{CompressStage}
use Rattle.bl_proc_compress.specs.declared.compress.CompressStage.TheVariants as compress
use Rattle.bl_proc_compress.specs.Compresses.{compress_reply, compress_next_in, CompressArrives}
use Rattle.bl_proc_invariant.specs.Turns.{event_of}
use Rattle.bl_claims.specs.Squeezed.{acts_in, acts_of, Since, AreBeside, LacksPlace, Once}
use Rattle.bl_proc_invariant.specs.Logs.{to_right, AtFamily, AtLeft, AtBoth, put_act, to_last, IsToCompress, come_log, decision_log, compression_log, compress_reply_log, compress_log}
use Rattle.bl_proc_invariant.proofs.SideBySide.{beside}
use Rattle.bl_proc_invariant.proofs.ByPages.{right_is, got_both, merge_of, evened_of, evening_of, has_merged, has_evened}
use Rattle.bl_proc_invariant.proofs.Logging.{way_stays, way_goes}
use Rattle.bl_proc_deterministic.proofs.WayCases.{CompressionCase, compression_case}
use Rattle.bl_proc_deterministic.proofs.KindCases.{CompressCase}

pub acts_of-push : (ms : Trail) (m : Mark) → acts_of (ms ++ m ∷ []) ≡ acts_of ms ++ acts_in m.event.act
acts_of-push [] m = append-nil (acts_in m.event.act)
acts_of-push (n ∷ ms) m = ap (λ z. acts_in n.event.act ++ z) (acts_of-push ms m) ∙ sym (append_assoc (acts_in n.event.act) (acts_of ms) (acts_in m.event.act))

-- what of a list of acts writes
abbrev writes_among : List (Act Page Reply) → List (Act Page Reply)
writes_among [] = []
writes_among (a ∷ more) = writes_in a ++ writes_among more

among_done : (a : Act Page Reply) (rest : List (Act Page Reply)) → writes_among (acts_in a ++ rest) ≡ writes_in a ++ writes_among rest
among_done Act.Begin rest = refl
among_done (Act.End answer) rest = refl
among_done (Get x) rest = refl
among_done (Put x c) rest = refl
among_done (Act.Take x) rest = refl
among_done (Latch x) rest = refl
among_done (Act.Open x) rest = refl
among_done (Retire x) rest = refl
among_done (Act.Look what) rest = refl
among_done (Act.Release x) rest = refl
among_done (Miss what) rest = refl

writes_of-acts : (ms : Trail) → writes_of ms ≡ writes_among (acts_of ms)
writes_of-acts [] = refl
writes_of-acts (m ∷ ms) = ap (λ z. writes_in m.event.act ++ z) (writes_of-acts ms) ∙ sym (among_done m.event.act (acts_of ms))

-- since the latch nothing was written
pub since_unwritten : {ms : Trail} {x : ℕ} {acts : List (Act Page Reply)} → writes_among acts ≡ [] → Since ms x acts → Unwritten ms
since_unwritten none h = unwritten_since h.before (h.latch ∷ h.during) h.first h.split (ap (λ z. writes_in z ++ writes_of h.during) h.latched ∙ (writes_of-acts h.during ∙ (ap writes_among h.acts_are ∙ none)))

-- which of the two children a put is of
put_event : (sd : Side) (u : Puts) → event_of None (put_of sd u) seen.Done ≡ put_act sd u
put_event side.Left u = refl
put_event side.Right u = refl

refused_event : (sd : Side) (u : Puts) → event_of None (put_of sd u) seen.Refused ≡ Miss missed.Reservation
refused_event side.Left u = refl
refused_event side.Right u = refl

act_put : (sd : Side) (u : Puts) → acts_in (put_act sd u) ≡ put_act sd u ∷ []
act_put side.Left u = refl
act_put side.Right u = refl

not_evened : (h : Option Hint) → decision.Merged h ≡ decision.Evened → ⊥
not_evened h e = cc

decided_at : (f : Family) (c d : Page) (u : Puts) → Decides f c d (PuttingFirst u) → u.at ≡ f.at
decided_at f c d u h = elim h [ inl m ↦ m.1.at | inr v ↦ v.at ]

decided_near : (f : Family) (c d : Page) (u : Puts) → Decides f c d (PuttingFirst u) → AreNeighbours c d
decided_near f c d u h = elim h [ inl m ↦ m.0 | inr v ↦ v.may.neighbours ]

many : (page : Page) → ¬ IsFew page → 7 ≤ length (pairs_of page)
many page h = elim (cases_lt (length (pairs_of page)) 7) [ inl few ↦ absurd (h few) | inr enough ↦ enough ]

module _ (ms : Trail) (m : Mark) where
  abbrev more : Trail
  more = ms ++ m ∷ []

  pub since_now : (x : ℕ) → m.event.act ≡ Latch x → Unwritten ms → Since more x []
  since_now x e first = record { before = ms; first = first; latch = m; during = []; split = refl; latched = e; acts_are = refl }

  abbrev pub since_on : {x : ℕ} {acts : List (Act Page Reply)} (new : List (Act Page Reply)) → acts_in m.event.act ≡ new → Since ms x acts → Since more x (acts ++ new)
  since_on {x} {acts} new did h = record {
    before = h.before;
    first = h.first;
    latch = h.latch;
    during = h.during ++ m ∷ [];
    split = ap (λ z. z ++ m ∷ []) h.split ∙ append_assoc h.before (h.latch ∷ h.during) (m ∷ []);
    latched = h.latched;
    acts_are = acts_of-push h.during m ∙ (ap (λ z. z ++ acts_in m.event.act) h.acts_are ∙ ap (λ z. acts ++ z) did);
  }

  abbrev family_on : {level key : ℕ} {f : Family} {acts : List (Act Page Reply)} (new : List (Act Page Reply)) → acts_in m.event.act ≡ new → AtFamily level key ms f acts → AtFamily level key more f (acts ++ new)
  family_on new did h = record { since = since_on new did h.since; got = got_on h.since.during m h.got; level_is = h.level_is; covers = h.covers; siblings = h.siblings }

  abbrev left_on : {level key : ℕ} {f : Family} {c : Page} {acts : List (Act Page Reply)} (new : List (Act Page Reply)) → acts_in m.event.act ≡ new → AtLeft level key ms f c acts → AtLeft level key more f c (acts ++ new)
  left_on new did h = record { family = family_on new did h.family; got = got_on h.family.since.during m h.got }

  abbrev both_on : {level key : ℕ} {f : Family} {c d : Page} {acts : List (Act Page Reply)} (new : List (Act Page Reply)) → acts_in m.event.act ≡ new → AtBoth level key ms f c d acts → AtBoth level key more f c d (acts ++ new)
  both_on new did h = record { left = left_on new did h.left; got = got_on h.left.family.since.during m h.got }

  abbrev puts_on : {level key : ℕ} {u : Puts} {acts : List (Act Page Reply)} (new : List (Act Page Reply)) → acts_in m.event.act ≡ new → IsToCompress level key ms u acts → IsToCompress level key more u (acts ++ new)
  puts_on new did h = record { family = h.family; left = h.left; right = h.right; at = h.at; both = both_on new did h.both; decided = h.decided }

  -- the left child was got just now, and the right one
  left_got : {level key : ℕ} {f : Family} {acts : List (Act Page Reply)} (c : Page) → m.event.act ≡ Get f.at.left → m.saw ≡ Some c → AtFamily level key ms f acts → AtLeft level key more f c (acts ++ Get f.at.left ∷ [])
  left_got {level} {key} {f} c did saw h = record { family = family_on (Get f.at.left ∷ []) (ap acts_in did) h; got = got_last h.since.during m did saw }

  right_got : {level key : ℕ} {f : Family} {c : Page} {acts : List (Act Page Reply)} (d : Page) → m.event.act ≡ Get f.at.right → m.saw ≡ Some d → AtLeft level key ms f c acts → AtBoth level key more f c d (acts ++ Get f.at.right ∷ [])
  right_got {level} {key} {f} d did saw h = record { left = left_on (Get f.at.right ∷ []) (ap acts_in did) h; got = got_last h.family.since.during m did saw }

  -- it was done once, and stays done; or was done just now
  abbrev pub once_on : {Then : Trail → Type 0} → writes_in m.event.act ≡ [] → Once ms Then → Once more Then
  once_on put h = record {
    until = h.until;
    after = h.after ++ m ∷ [];
    split = ap (λ z. z ++ m ∷ []) h.split ∙ append_assoc h.until h.after (m ∷ []);
    no_more = writes_of-append h.after (m ∷ []) ∙ (ap (λ z. z ++ writes_of (m ∷ [])) h.no_more ∙ ap (λ z. z ++ []) put);
    is = h.is;
  }

  abbrev pub once_now : {Then : Trail → Type 0} → Then more → Once more Then
  once_now h = record { until = more; after = []; split = sym (append-nil more); no_more = refl; is = h }

  module _ (level key : ℕ) where
    decision_on : (ended : Decision) → writes_in m.event.act ≡ [] → decision_log level key ended ms → decision_log level key ended more
    decision_on (decision.Merged hint) put h = once_on put h
    decision_on decision.Evened put h = once_on put h
    decision_on decision.Enough put h = once_on put h
    decision_on (decision.Unposted hint) put h = once_on put h
    decision_on decision.Refused put h = once_on put h
    decision_on decision.Lost put h = unwritten_on ms m put h

    compressed_on : (r : CompressReply) → writes_in m.event.act ≡ [] → compress_reply_log level key r ms → compress_reply_log level key r more
    compressed_on (reply.Merged hint) put h = once_on put h
    compressed_on reply.Evened put h = once_on put h
    compressed_on reply.Enough put h = once_on put h
    compressed_on reply.Alone put h = once_on put h
    compressed_on (reply.Unposted hint) put h = once_on put h
    compressed_on reply.NoRoom put h = once_on put h

    same_reply : (r r' : CompressReply) → Some r ≡ Some r' → r ≡ r'
    same_reply r r' e = cc

    decision_compressed : (ended : Decision) (r : CompressReply) → compress_reply ended ≡ Some r → decision_log level key ended more → compress_reply_log level key r more
    decision_compressed (decision.Merged hint) r e h = subst (λ z. compress_reply_log level key z more) (same_reply _ _ e) h
    decision_compressed decision.Evened r e h = subst (λ z. compress_reply_log level key z more) (same_reply _ _ e) h
    decision_compressed decision.Enough r e h = subst (λ z. compress_reply_log level key z more) (same_reply _ _ e) h
    decision_compressed (decision.Unposted hint) r e h = subst (λ z. compress_reply_log level key z more) (same_reply _ _ e) h
    decision_compressed decision.Refused r e h = subst (λ z. compress_reply_log level key z more) (same_reply _ _ e) h
    decision_compressed decision.Lost r e h = absurd (let z : None ≡ Some r = e in cc)

    lost_unwritten : (ended : Decision) → compress_reply ended ≡ None → decision_log level key ended more → Unwritten more
    lost_unwritten decision.Lost e h = h
    lost_unwritten (decision.Merged hint) e h = absurd (let z : Some (reply.Merged hint) ≡ None = e in cc)
    lost_unwritten decision.Evened e h = absurd (let z : Some reply.Evened ≡ None = e in cc)
    lost_unwritten decision.Enough e h = absurd (let z : Some reply.Enough ≡ None = e in cc)
    lost_unwritten (decision.Unposted hint) e h = absurd (let z : Some (reply.Unposted hint) ≡ None = e in cc)
    lost_unwritten decision.Refused e h = absurd (let z : Some reply.NoRoom ≡ None = e in cc)

    -- all three pages were put
    last_on : (u : Puts) → IsToCompress level key more u (to_last u) → compression_log level key (after_puts u.at u.decision) more
    last_on u h = elim h.decided [
      | inl m ↦ subst (λ z. compression_log level key (after_puts u.at z) more) (sym m.1.decision) (u, refl, h, m.1.decision, (_, refl))
      | inr v ↦ subst (λ z. compression_log level key (after_puts u.at z) more) (sym v.decision) (once_now (has_evened level key more u h v))
    ]

    -- no frame was there for the first put
    lacks : (u : Puts) → m.event.act ≡ Miss missed.Reservation → IsToCompress level key ms u (to_right u.at []) → LacksPlace level key more
    lacks u did h = record {
      until = ms;
      mark = m;
      split = refl;
      refused = did;
      both = got_both h.family h.left h.right (λ at. []) (decided_near h.family h.left h.right u h.decided) (subst (λ (t : Siblings). AtBoth level key ms h.family h.left h.right (to_right t [])) h.at h.both);
      due = elim h.decided [
        | inl d ↦ inl (u.left, u.parent, u.right, merge_of h.family h.left h.right u d.0 d.1)
        | inr v ↦ inr (evened_of u v.separator, u.parent, evening_of h.family h.left h.right u v)
      ];
    }

    -- the right one was retired
    retired_on : (at : Siblings) (ended : Decision) → m.event.act ≡ Retire at.right → compression_log level key (Retiring at ended) ms → decision_log level key ended more
    retired_on at ended did (u, same, h, is, one) =
        let e : acts_in m.event.act ≡ Retire u.at.right ∷ [] = ap acts_in did ∙ ap (λ (t : Siblings). Retire t.right ∷ []) (sym same) in
        let whole = puts_on (Retire u.at.right ∷ []) e h in
        elim h.decided [
          | inl m ↦ subst (λ z. decision_log level key z more) (sym m.1.decision ∙ is) (once_now (has_merged level key more u whole m.0 m.1))
          | inr v ↦ absurd (not_evened one.0 (sym (is ∙ one.1) ∙ v.decision))
        ]

    links_on : (f : Family) (c : Page) (d : Compression) → Links f c d → m.event.act ≡ Get f.at.left → m.saw ≡ Some c → AtFamily level key ms f (Get f.at.parent ∷ Latch f.at.left ∷ []) → compression_log level key d more
    links_on f c (LatchingRight h page) t did saw log = rw (← t.0, ← t.1) at (left_got c did saw log)
    links_on f c (OpeningLeft at ended) t did saw log = subst (λ z. decision_log level key z more) (sym t.2) (once_now (let got = left_got c did saw log in record { first = record { family = f; at = got.family; left = c; got = got.got }; between = λ e. t.1 (right_is c ∙ e); hint_is = ap (λ l. post.Post l (high_of c)) log.level_is }))
    links_on f c old t did saw log = absurd t

    decides_on : (f : Family) (c d : Page) (new : Compression) → Decides f c d new → m.event.act ≡ Get f.at.right → m.saw ≡ Some d → AtLeft level key ms f c (Get f.at.parent ∷ Latch f.at.left ∷ Get f.at.left ∷ Latch f.at.right ∷ []) → compression_log level key new more
    decides_on f c d (PuttingFirst u) t did saw log =
        let same = decided_at f c d u t in
        record { family = f; left = c; right = d; at = same; both = subst (λ (z : Siblings). AtBoth level key more f c d (to_right z [])) (sym same) (right_got d did saw log); decided = t }
    decides_on f c d (OpeningRight at decision.Enough) t did saw log = once_now (record { both = got_both f c d (λ at. []) t.1 (right_got d did saw log); past = t.2; many = (many c t.3, many d t.4) })
    decides_on f c d (OpeningRight at decision.Lost) t did saw log = unwritten_on ms m (ap writes_in did) (since_unwritten refl log.family.since)
    decides_on f c d old t did saw log = absurd t

    compression_on : {c d : Compression} {what : Seen} → CompressionCase c what (step.On d) → m.event.act ≡ event_of None (compression_next c) what → ((x : ℕ) (e : Page) → m.event.act ≡ Get x → what ≡ seen.Words e → m.saw ≡ Some e) → compression_log level key c ms → compression_log level key d more
    compression_on (CompressionCase.LatchLeft f d t) did saw h = subst (λ z. compression_log level key z more) (sym t) (family_on (Latch f.at.left ∷ []) (ap acts_in did) h)
    compression_on (CompressionCase.MissLeft f d t) did saw h = subst (λ z. compression_log level key z more) (sym t) (family_on [] (ap acts_in did) h)
    compression_on (CompressionCase.LeaveLeft f d t) did saw h = subst (λ z. compression_log level key z more) (sym t) (unwritten_on ms m (ap writes_in did) (since_unwritten refl h.since))
    compression_on (CompressionCase.GotLeft f c d t) did saw h = links_on f c d t did (saw f.at.left c did refl) h
    compression_on (CompressionCase.LatchRight f c d t) did saw h = subst (λ z. compression_log level key z more) (sym t) (left_on (Latch f.at.right ∷ []) (ap acts_in did) h)
    compression_on (CompressionCase.MissRight f c d t) did saw h = subst (λ z. compression_log level key z more) (sym t) (left_on [] (ap acts_in did) h)
    compression_on (CompressionCase.LeaveRight f c d t) did saw h = subst (λ z. compression_log level key z more) (sym t) (unwritten_on ms m (ap writes_in did) (since_unwritten refl h.family.since))
    compression_on (CompressionCase.GotRight f c e d t) did saw h = decides_on f c e d t did (saw f.at.right e did refl) h
    compression_on (CompressionCase.PutFirst u d t) did saw h = subst (λ z. compression_log level key z more) (sym t) (puts_on (put_act u.gains u ∷ []) (ap acts_in (did ∙ put_event u.gains u) ∙ act_put u.gains u) h)
    compression_on (CompressionCase.FirstRefused u d t) did saw h = subst (λ z. compression_log level key z more) (sym t) (once_now (lacks u (did ∙ refused_event u.gains u) h))
    compression_on (CompressionCase.PutParent u d t) did saw h = subst (λ z. compression_log level key z more) (sym t) (puts_on (Put u.at.parent u.parent ∷ []) (ap acts_in did) h)
    compression_on (CompressionCase.PutLast u d t) did saw h = subst (λ z. compression_log level key z more) (sym t) (last_on u (puts_on (put_act (other u.gains) u ∷ []) (ap acts_in (did ∙ put_event (other u.gains) u) ∙ act_put (other u.gains) u) h))
    compression_on (CompressionCase.Retired at ended d t) did saw h = subst (λ z. compression_log level key z more) (sym t) (retired_on at ended did h)
    compression_on (CompressionCase.OpenedRight at ended d t) did saw h = subst (λ z. compression_log level key z more) (sym t) (decision_on ended (ap writes_in did) h)
    compression_on (CompressionCase.OpenedLeft at ended d t) did saw h = subst (λ z. compression_log level key z more) (sym t) (decision_on ended (ap writes_in did) h)

    over_on : {c : Compression} {what : Seen} {ended : Decision} → CompressionCase c what (step.Over ended) → m.event.act ≡ event_of None (compression_next c) what → compression_log level key c ms → decision_log level key ended more
    over_on (CompressionCase.OpenedParent x ended _ t) did h = subst (λ z. decision_log level key z more) (sym t) (decision_on ended (ap writes_in did) h)

    -- at the parent
    met_on : (x : ℕ) (parent : Inner) (f : Family) → CompressArrives key x parent (compress.Compressing (LatchingLeft f)) → Leads (InnerPage parent) key level Here → m.event.act ≡ Get x → m.saw ≡ Some (InnerPage parent) → Since ms x [] → compress_log level key (compress.Compressing (LatchingLeft f)) more
    met_on x parent f siblings l did saw h =
        let family = siblings.1 in
        let here : InnerPage parent ≡ InnerPage f.parent = ap InnerPage (sym family.parent_is) in
        let e : x ≡ f.at.parent = sym family.parent_at in
        let now : Since ms f.at.parent [] = subst (λ z. Since ms z []) e h in
        let get : m.event.act ≡ Get f.at.parent = did ∙ ap Get e in
        record {
          since = since_on (Get f.at.parent ∷ []) (ap acts_in get) now;
          got = got_last now.during m get (saw ∙ ap Some here);
          level_is = ap (λ v. (node_of v).shape.level) (sym here) ∙ l.2;
          covers = subst (λ z. Covers (node_of z).shape key) here l.1;
          siblings = subst (λ (z : Inner). AreBeside key z (Some f)) (sym family.parent_is) (beside x key parent f siblings l.1.0);
        }

    single_on : (x : ℕ) (parent : Inner) (y : ℕ) → CompressArrives key x parent (compress.Staying y) → Leads (InnerPage parent) key level Here → m.event.act ≡ Get x → m.saw ≡ Some (InnerPage parent) → Since ms x [] → compress_log level key (compress.Staying y) more
    single_on x parent y t l did saw h = once_now (inr (
      x,
      parent,
      record {
        since = since_on (Get x ∷ []) (ap acts_in did) h;
        got = got_last h.during m did saw;
        level_is = l.2;
        covers = l.1;
        siblings = t.1;
      },
    ))

    module _ (least : 0 < level) where
      -- any step of a compression
      pub compress_on : {waits : Bool} {a a' : CompressStage} {what : Seen} → CompressCase level key waits a what a' → m.event.act ≡ event_of None (compress_next_in a) what → ((x : ℕ) (e : Page) → m.event.act ≡ Get x → what ≡ seen.Words e → m.saw ≡ Some e) → compress_log level key a ms → compress_log level key a' more
      compress_on (CompressCase.Began a t) did saw h = subst (λ z. come_log z more) (sym t) (unwritten_now ms m did h)
      compress_on (CompressCase.NoLevel c t) did saw h = once_now (inl (record { first = unwritten_on ms m (ap writes_in did) h; anchor = c; got = got_last ms m did (saw 0 c did refl); few = λ a e. subst (λ (z : Page). (roots_of z).levels ≤ level) e t }))
      compress_on (CompressCase.Came a what b t) did saw h = way_goes m level key (λ x k. since_unwritten refl k) (unwritten_on ms m) since_now a b what t did h
      compress_on (CompressCase.Met x parent f l t) did saw h = met_on x parent f t l did (saw x (InnerPage parent) did refl) h
      compress_on (CompressCase.Single x parent y l t) did saw h = single_on x parent y t l did (saw x (InnerPage parent) did refl) h
      compress_on (CompressCase.WentOn c what d t) did saw h = compression_on (compression_case _ c what _ t) did saw h
      compress_on (CompressCase.Lost c what a (ended, t, none, start)) did saw h = subst (λ z. come_log z more) (sym start) (lost_unwritten ended none (over_on (compression_case _ c what _ t) did h))
      compress_on (CompressCase.Finished c what r (ended, t, some)) did saw h = decision_compressed ended r some (over_on (compression_case _ c what _ t) did h)
      compress_on (CompressCase.Opened x r t) did saw h = subst (λ z. compress_reply_log level key z more) (sym t) (once_on (ap writes_in did) h)
      compress_on (CompressCase.Ended r last t) did saw h = subst (λ z. compress_reply_log level key z more) (sym t) (compressed_on r (ap writes_in did) h)

  -- a miss that is of no turn of its own changes nothing
  module _ {what : Missed} (level key : ℕ) (did : m.event.act ≡ Miss what) where
    compression_stays : (c : Compression) → compression_log level key c ms → compression_log level key c more
    compression_stays (LatchingLeft f) h = family_on [] (ap acts_in did) h
    compression_stays (LatchedLeft f) h = family_on [] (ap acts_in did) h
    compression_stays (LatchingRight f c) h = left_on [] (ap acts_in did) h
    compression_stays (LatchedRight f c) h = left_on [] (ap acts_in did) h
    compression_stays (PuttingFirst u) h = puts_on [] (ap acts_in did) h
    compression_stays (PuttingParent u) h = puts_on [] (ap acts_in did) h
    compression_stays (PuttingLast u) h = puts_on [] (ap acts_in did) h
    compression_stays (Retiring at ended) (u, same, h, is, one) = (u, same, puts_on [] (ap acts_in did) h, is, one)
    compression_stays (OpeningRight at ended) h = decision_on level key ended (ap writes_in did) h
    compression_stays (OpeningLeft at ended) h = decision_on level key ended (ap writes_in did) h
    compression_stays (OpeningParent x ended) h = decision_on level key ended (ap writes_in did) h

    pub compress_stays : (a : CompressStage) → compress_log level key a ms → compress_log level key a more
    compress_stays compress.New h = none_written ms m (ap writes_in did) h
    compress_stays (compress.Coming a) h = way_stays (unwritten_on ms m (ap writes_in did)) (λ x k. since_on [] (ap acts_in did) k) a h
    compress_stays (compress.Compressing c) h = compression_stays c h
    compress_stays (compress.Staying x) h = once_on (ap writes_in did) h
    compress_stays (compress.Ending r) h = compressed_on level key r (ap writes_in did) h
    compress_stays (compress.Over r) h = compressed_on level key r (ap writes_in did) h
