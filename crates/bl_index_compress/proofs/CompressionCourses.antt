-- A compression of which a pass has no value goes on.
use Rattle.std.proofs.Common.{ℕ, ◌≡◌, ◌≢◌, List, get_or, Option, Some, None, IfNone, refl, sym, ap, ◌∙◌, subst, Bool, true}
use Rattle.bl_layout.specs.declared.layout.Layout.{Layout}
use Rattle.bl_page.specs.declared.page.Page.{Page}
use Rattle.bl_page.specs.Words.{words_of}
use Rattle.bl_proc_steps.specs.declared.acts.Seen.{Seen}
use Rattle.bl_proc_steps.specs.declared.acts.Seen.TheVariants as seen
use Rattle.bl_proc_steps.specs.Given.{Gives}
use Rattle.bl_proc_steps.specs.declared.approach.Approach.TheVariants.{Start}
use Rattle.bl_answers.specs.declared.answers.Hint.{Hint}
use Rattle.bl_answers.specs.declared.answers.Hint.TheVariants as hint
use Rattle.bl_answers.specs.declared.answers.Answer.TheVariants as answer
use Rattle.bl_answers.specs.declared.answers.Squeezed.{Squeezed}
use Rattle.bl_answers.specs.declared.answers.Squeezed.TheVariants as squeezed
use Rattle.bl_proc_compress.specs.declared.compression.Compression.{Compression}
use Rattle.bl_proc_compress.specs.declared.compression.Compression.TheVariants.{LatchingLeft, LatchedLeft, LatchingRight, LatchedRight, OpeningLeft, OpeningParent, OpeningRight}
use Rattle.bl_proc_compress.specs.declared.compression.Compressed.TheVariants as step
use Rattle.bl_proc_compress.specs.declared.compression.Decision.{Decision}
use Rattle.bl_rearrange.specs.declared.families.Family.{Family}
use Rattle.bl_rearrange.specs.declared.families.Siblings.{Siblings}
use Rattle.bl_proc_compress.specs.declared.compress.CompressReply.{CompressReply}
use Rattle.bl_proc_compress.specs.declared.compress.CompressReply.TheVariants as reply
use Rattle.bl_proc_compress.specs.declared.compression.Decision.TheVariants.{Merged, Evened, Enough, Unposted, Refused, Lost}
use Rattle.bl_proc_compress.specs.declared.compress.CompressStage.{CompressStage}
use Rattle.bl_proc_compress.specs.declared.compress.CompressStage.TheVariants.{Coming, Compressing, Ending, Over}
use Rattle.bl_rearrange.specs.Rearranged.{high_of, right_of}
use Rattle.bl_proc_compress.specs.Compressions.{compression_next, compression_needs, missed_left, missed_right, Compresses}
use Rattle.bl_proc_compress.specs.Compresses.{compress_next_in, compress_needs_in, compress_answer_in, compressed_answer}
use Rattle.bl_proc.specs.declared.kinds.Proc.{Proc}
use Rattle.bl_proc.specs.Processes.{Takes}
use Rattle.bl_proc_deterministic.specs.Courses.{GoesOn}
use Rattle.bl_proc_deterministic.proofs.Compressions.{compress_goes}
use Rattle.atomic_table.specs.declared.shared.Seat.{Seat}
use Rattle.bl_store_rule.specs.declared.view.View.{View}
use Rattle.bl_store.specs.declared.store.Hand.{Hand}
use Rattle.bl_store.specs.Hands.{known, IsSameHand}
use Rattle.bl_index_rule.specs.declared.known.PassState.{PassState}
use Rattle.bl_index_rule.specs.Observed.{Goes}
use Rattle.bl_index_events.specs.declared.tree.Tree.{Tree}
use Rattle.bl_index_events.specs.Runs.{EndsAs, IsOn, IsSameProcess, Runs}
use Rattle.bl_index_events.proofs.Standing.{course_at, goes_to, on_as, on_goes, same_all}
use Rattle.bl_index_compress.specs.declared.targets.CompressTarget.{CompressTarget}
use Rattle.bl_index_compress.specs.declared.targets.Kin.{Kin}
use Rattle.bl_index_compress.specs.CompressStands.{compress_of, compression_of, Answers, HasBoth, HasLeft, IsCompressOver, IsDecided, IsKin, LeavesParent}
use Rattle.bl_index_compress.proofs.Spelled.{reads}

pub stage_course : (j : CompressTarget) (s : CompressStage) (what : Seen) (state : Proc) → state ≡ compress_of j s → compress_answer_in s ≡ None → Gives (compress_next_in s) (compress_needs_in s) what → GoesOn state what
stage_course j s what state is running given = course_at what state (compress_of j s) is (compress_goes (record { level = j.level; key = j.key; waits = j.waits; stage = s; least = j.least; most = j.most }) what running given)

pub compression_course : (j : CompressTarget) (c : Compression) (what : Seen) (state : Proc) → state ≡ compression_of j c → Gives (compression_next c) (compression_needs c) what → GoesOn state what
compression_course j c what state is given = stage_course j (Compressing c) what state is refl given

pub compression_runs : (l : Layout) (j : CompressTarget) (c n : Compression) (what : Seen) (d e : PassState) → IsOn l d (compression_of j c) → Goes what d e → Compresses j.waits c what (step.On n) → IsOn l e (compression_of j n)
compression_runs l j c n what d e on goes t = on_goes l what d e (compression_of j c) (compression_of j n) on goes (refl, refl, refl, t)

-- where a latch that was missed leaves it
misses : (j : CompressTarget) (c n : Compression) (state : Proc) → state ≡ compression_of j c → Compresses j.waits c seen.Missed (step.On n) → Takes state seen.Missed (compression_of j n)
misses j c n state is t = subst (λ (z : Proc). Takes z seen.Missed (compression_of j n)) (sym is) (refl, refl, refl, t)

-- one that waits stays as it is
pub misses_left : (j : CompressTarget) (f : Family) (state : Proc) → j.waits ≡ true → state ≡ compression_of j (LatchingLeft f) → Takes state seen.Missed state
misses_left j f state waits is = subst (λ (z : Proc). Takes state seen.Missed z) (sym is) (misses j (LatchingLeft f) (LatchingLeft f) state is (ap (λ (w : Bool). missed_left w f) (sym waits)))

pub misses_right : (j : CompressTarget) (f : Family) (c : Page) (state : Proc) → j.waits ≡ true → state ≡ compression_of j (LatchingRight f c) → Takes state seen.Missed state
misses_right j f c state waits is = subst (λ (z : Proc). Takes state seen.Missed z) (sym is) (misses j (LatchingRight f c) (LatchingRight f c) state is (ap (λ (w : Bool). missed_right w f c) (sym waits)))

-- where a latch that it had leaves it
pub latches : (j : CompressTarget) (c n : Compression) (state : Proc) → state ≡ compression_of j c → Compresses j.waits c seen.Done (step.On n) → Takes state seen.Done (compression_of j n)
latches j c n state is t = subst (λ (z : Proc). Takes z seen.Done (compression_of j n)) (sym is) (refl, refl, refl, t)

-- It opens its parent, and is to end with its answer, or begins again.
pub opens_parent : (j : CompressTarget) (x : ℕ) (decision : Decision) (said : Option (Squeezed × Option Hint)) → Answers decision said → (state : Proc) × Takes (compression_of j (OpeningParent x decision)) seen.Done state × HasLeft j said state
opens_parent j x decision (Some t) a = (compress_of j (Ending a.0), (refl, refl, refl, (decision, refl, a.1)), (a.0, a.2, refl))
opens_parent j x decision None a = (compress_of j (Coming Start), (refl, refl, refl, (decision, refl, a, refl)), refl)

abbrev H : Type 0
H = Seat (Unit {0}) (View PassState)

pub same_hands : (h k m : H) → IsSameHand h k → IsSameHand k m → IsSameHand h m
same_hands h k m one two = (two.0 ∙ one.0, two.1 ∙ one.1, two.2 ∙ one.2)

-- from an earlier state of its pass on
pub decided_since : (tree : Tree) (h k : H) (hand : Hand PassState) (j : CompressTarget) (kin : Kin) (decision : Decision) → IsSameHand h k → IsSameProcess (known h) (known k) → IsDecided tree k hand j kin decision → IsDecided tree h hand j kin decision
decided_since tree h k hand j kin decision same since d = record { same = same_hands h k hand.seat same d.same; empty = d.empty; runs = d.runs; since = same_all _ _ _ since d.since; no_room = d.no_room }

pub leaves_since : (tree : Tree) (h k : H) (hand : Hand PassState) (j : CompressTarget) (said : Option (Squeezed × Option Hint)) → IsSameHand h k → IsSameProcess (known h) (known k) → LeavesParent tree k hand j said → LeavesParent tree h hand j said
leaves_since tree h k hand j said same since l = record { same = same_hands h k hand.seat same l.same; empty = l.empty; state = l.state; runs = l.runs; left = l.left; since = same_all _ _ _ since l.since; no_room = l.no_room }

-- It holds both children, and has got the right one.
pub has_both : (j : CompressTarget) (kin : Kin) (parent left right : List ℕ) (f : Family) (c p : Page) (d e : PassState) → IsKin j kin parent f → left ≡ words_of c → right ≡ words_of p → d.state ≡ compression_of j (LatchedRight f c) → Goes (seen.Words p) d e → HasBoth j kin parent left right e
has_both j kin parent left right f c p d e k l r is goes = record {
  family = f;
  lower = c;
  upper = p;
  are = k;
  left_is = l;
  right_is = r;
  decides = λ n t. goes_to (seen.Words p) d e (compression_of j (LatchedRight f c)) (compression_of j n) goes is (refl, refl, refl, t);
}

-- It is to open the right child.
pub on_opening : (l : Layout) (j : CompressTarget) (kin : Kin) (parent : List ℕ) (f : Family) (d : PassState) (decision : Decision) → IsKin j kin parent f → IsOn l d d.state → d.state ≡ compression_of j (OpeningRight f.at decision) → IsOn l d (compression_of j (OpeningRight kin.at decision))
on_opening l j kin parent f d decision k on is = on_as l d _ on (is ∙ ap (λ (z : Siblings). compression_of j (OpeningRight z decision)) k.at)

-- It has opened its parent, and ends.
pub ends_compression : (j : CompressTarget) (r : CompressReply) (state : Proc) → state ≡ compress_of j (Ending r) → EndsAs state (compress_of j (Over r))
ends_compression j r state is = subst (λ (z : Proc). EndsAs z (compress_of j (Over r))) (sym is) (record { at_end = refl; over = stage_course j (Ending r) seen.Done (compress_of j (Ending r)) refl refl tt; ended = (refl, refl, refl, refl) })

-- what became of a compression, from an earlier state of its pass on
pub over_since : (j : CompressTarget) (d e : PassState) (h : H) (what : Squeezed) (hint : Option Hint) → IsSameProcess d e → IsCompressOver j e h what hint → IsCompressOver j d h what hint
over_since j d e h what hint same over = record { rests = over.rests; empty = over.empty; no_room = over.no_room; is_compressed = λ pass old since. over.is_compressed pass old (same pass old since) }

-- what it runs when it has left its parent
pub leaves_answered : (tree : Tree) (h : H) (hand : Hand PassState) (j : CompressTarget) (said : Option (Squeezed × Option Hint)) (t : Squeezed × Option Hint) → LeavesParent tree h hand j said → said ≡ Some t → (r : CompressReply) × (compressed_answer r ≡ answer.Compress t.0 t.1) × Runs tree hand (compress_of j (Ending r))
leaves_answered tree h hand j said t left e =
    let is = subst (λ (z : Option (Squeezed × Option Hint)). HasLeft j z left.state) e left.left in
    (is.0, is.1, subst (λ (z : Proc). Runs tree hand z) is.2 left.runs)

pub leaves_again : (tree : Tree) (h : H) (hand : Hand PassState) (j : CompressTarget) (said : Option (Squeezed × Option Hint)) → LeavesParent tree h hand j said → said ≡ None → Runs tree hand (compress_of j (Coming Start))
leaves_again tree h hand j said left e = subst (λ (z : Proc). Runs tree hand z) (subst (λ (z : Option (Squeezed × Option Hint)). HasLeft j z left.state) e left.left) left.runs

answer_same : (t u : Squeezed × Option Hint) → Some t ≡ Some u → t ≡ u
answer_same t u e = cc

reply_same : (q r : CompressReply) → Some q ≡ Some r → q ≡ r
reply_same q r e = cc

by_reply : (q : CompressReply) (given : Option CompressReply) (t : Squeezed × Option Hint) (hint : Option Hint) → (r : CompressReply) × (given ≡ Some r) × (compressed_answer r ≡ answer.Compress t.0 t.1) → given ≡ Some q → Some t ≡ Some (squeezed.NoRoom, hint) → compressed_answer q ≡ answer.Compress squeezed.NoRoom hint
by_reply q given t hint a is e =
    let same : t ≡ (squeezed.NoRoom, hint) = answer_same t _ e in
    ap compressed_answer (reply_same q a.0 (sym is ∙ a.1)) ∙ (a.2 ∙ ap (λ (z : Squeezed × Option Hint). answer.Compress z.0 z.1) same)

pub refused_answer : (decision : Decision) (said : Option (Squeezed × Option Hint)) (hint : Option Hint) → Answers decision said → said ≡ Some (squeezed.NoRoom, hint) → decision ≡ Refused
refused_answer Refused said hint a e = refl
refused_answer (Merged h) (Some t) hint a e = absurd (let z : answer.Compress squeezed.Merged h ≡ answer.Compress squeezed.NoRoom hint = by_reply (reply.Merged h) _ t hint a refl e in cc)
refused_answer Evened (Some t) hint a e = absurd (let z : answer.Compress squeezed.Evened None ≡ answer.Compress squeezed.NoRoom hint = by_reply reply.Evened _ t hint a refl e in cc)
refused_answer Enough (Some t) hint a e = absurd (let z : answer.Compress squeezed.Enough None ≡ answer.Compress squeezed.NoRoom hint = by_reply reply.Enough _ t hint a refl e in cc)
refused_answer (Unposted h) (Some t) hint a e = absurd (let z : answer.Compress squeezed.Unposted (Some h) ≡ answer.Compress squeezed.NoRoom hint = by_reply (reply.Unposted h) _ t hint a refl e in cc)
refused_answer Lost (Some t) hint a e = absurd (let z : None ≡ Some a.0 = a.1 in cc)
refused_answer decision None hint a e = absurd (let z : None ≡ Some (squeezed.NoRoom, hint) = e in cc)

-- At the left child.
module _ (l : Layout) (j : CompressTarget) (kin : Kin) (parent words : List ℕ) (f : Family) (c : Page) (d e : PassState) (k : IsKin j kin parent f) (w : words ≡ words_of c) (on : IsOn l d (compression_of j (LatchedLeft f))) (goes : Goes (seen.Words c) d e) where
  pub links_right : get_or words 3 0 ≡ kin.at.right → IsOn l e (compression_of j (LatchingRight f c))
  links_right same = compression_runs l j (LatchedLeft f) (LatchingRight f c) (seen.Words c) d e on goes (refl, refl, sym (reads c words w).right ∙ (same ∙ ap (λ (z : Siblings). z.right) (sym k.at)))

  links_left : get_or words 3 0 ≢ kin.at.right → (level : ℕ) → level ≡ j.level → IsOn l e (compression_of j (OpeningLeft kin.at (Unposted (hint.Post level (get_or words 2 0)))))
  links_left differ level named =
      let read = reads c words w in
      let apart : right_of c ≢ f.at.right = λ same. differ (read.right ∙ (same ∙ ap (λ (z : Siblings). z.right) k.at)) in
      subst (λ (z : Siblings × ℕ × ℕ). IsOn l e (compression_of j (OpeningLeft z.0 (Unposted (hint.Post z.1 z.2))))) (λ i. (k.at i, (k.level ∙ sym named) i, sym read.high i))
      (compression_runs l j (LatchedLeft f) (OpeningLeft f.at (Unposted (hint.Post f.parent.level (high_of c)))) (seen.Words c) d e on goes (refl, apart, refl))

  -- and lists a page first that is not listed yet
  pub unlinked : get_or words 3 0 ≢ kin.at.right → (decision : Decision) → decision ≡ Unposted (hint.Post j.level (get_or words 2 0)) → IsOn l e (compression_of j (OpeningLeft kin.at decision))
  unlinked differ decision is = subst (λ (z : Decision). IsOn l e (compression_of j (OpeningLeft kin.at z))) (sym is) (links_left differ j.level refl)

-- what it has found at the left child where it does not decide there
pub linked : (kin : Kin) (words : List ℕ) (decided : Option Decision) → IfNone decided (get_or words 3 0 ≡ kin.at.right) → ((d : Decision) → decided ≡ Some d → ⊥) → get_or words 3 0 ≡ kin.at.right
linked kin words None h not = h
linked kin words (Some d) h not = absurd (not d refl)

pub lost_has_room : {A : Type 0} (hint : Option Hint) → ◌≡◌ {A = Option (Squeezed × Option Hint)} None (Some (squeezed.NoRoom, hint)) → A
lost_has_room hint e = absurd (let z : ◌≡◌ {A = Option (Squeezed × Option Hint)} None (Some (squeezed.NoRoom, hint)) = e in cc)

pub alone_has_room : {A : Type 0} (hint : Option Hint) → ◌≡◌ {A = Option (Squeezed × Option Hint)} (Some (squeezed.Alone, None)) (Some (squeezed.NoRoom, hint)) → A
alone_has_room hint e = absurd (let z = ap (λ (t : Squeezed × Option Hint). t.0) (answer_same (squeezed.Alone, None) (squeezed.NoRoom, hint) e) in let y : squeezed.Alone ≡ squeezed.NoRoom = z in cc)

-- what is known where it found no room
pub refused_said : (said : Option (Squeezed × Option Hint)) (t : Squeezed × Option Hint) → said ≡ Some t → t.0 ≡ squeezed.NoRoom → said ≡ Some (squeezed.NoRoom, t.1)
refused_said said t is e = is ∙ (λ i. Some (e i, t.1))
