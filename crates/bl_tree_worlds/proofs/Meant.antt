-- What a process has done stays done: what an answer means is not undone by one mark more.
use Rattle.std.proofs.Common.{ℕ, ◌≡◌, ◌++◌, List, [], ◌∷◌, Option, Some, ap, sym, subst, ◌∙◌, refl, inl, inr, append_assoc, append-nil}
use Rattle.std.specs.Prelude.{Contains}
use Rattle.std.proofs.lemmas.List.Elements.{Contains-push, Contains-append_left}
use Rattle.bl_page.specs.declared.page.Page.{Page}
use Rattle.bl_model.specs.declared.operation.Reply.{Reply}
use Rattle.bl_page.specs.Machine.{Act}
use Rattle.bl_page.specs.Machine.Act.{Get, Latch}
use Rattle.bl_claims.specs.Trails.{Mark, Trail}
use Rattle.bl_claims.specs.Meanings.{HasGot, writes_in, writes_of, Wrote, Unwritten, WroteHeld, UnderLatch, AtParent, MeansDone, MeansAlready, MeansStale, MeansTooTall, MeansNoRoom}

pub writes_of-append : (xs ys : Trail) → writes_of (xs ++ ys) ≡ writes_of xs ++ writes_of ys
writes_of-append [] ys = refl
writes_of-append (m ∷ ms) ys = ap (λ z. writes_in m.event.act ++ z) (writes_of-append ms ys) ∙ sym (append_assoc (writes_in m.event.act) (writes_of ms) (writes_of ys))

-- one mark more, which writes this
pub writes_of-push : (ms : Trail) (m : Mark) → writes_of (ms ++ m ∷ []) ≡ writes_of ms ++ writes_in m.event.act
writes_of-push ms m = writes_of-append ms (m ∷ []) ∙ ap (λ z. writes_of ms ++ z) (append-nil (writes_in m.event.act))

-- it had written nothing, and has written nothing since
pub unwritten_since : {ms : Trail} (before since : Trail) → Unwritten before → ms ≡ before ++ since → writes_of since ≡ [] → Unwritten ms
unwritten_since before since h split none = (
  (h.0.0, subst (λ z. Contains z h.0.0) (sym split) (Contains-append_left before since h.0.0 h.0.1), h.0.2),
  ap writes_of split ∙ (writes_of-append before since ∙ (λ i. h.1 i ++ none i)),
)

-- it has latched a page, and has written nothing since either
pub latched_unwritten : {ms : Trail} {x : ℕ} → WroteHeld ms x [] → Unwritten ms
latched_unwritten h = unwritten_since h.before (h.latch ∷ h.since) h.first h.split (ap (λ z. writes_in z ++ writes_of h.since) h.latched ∙ h.writes_are)

module _ (ms : Trail) (m : Mark) where
  -- the process begins now; it writes this now
  pub begun_now : (Is : List (Act Page Reply) → Type 0) → m.event.act ≡ Act.Begin → Is [] → Wrote (ms ++ m ∷ []) Is
  begun_now Is e is = record { earlier = ms; begin = m; since = []; split = refl; begun = e; is = is }

  abbrev pub wrote_on : {Is Then : List (Act Page Reply) → Type 0} → ((acts : List (Act Page Reply)) → Is acts → Then (acts ++ writes_in m.event.act)) → Wrote ms Is → Wrote (ms ++ m ∷ []) Then
  wrote_on {Is} {Then} leads h = record {
    earlier = h.earlier;
    begin = h.begin;
    since = h.since ++ m ∷ [];
    split = ap (λ z. z ++ m ∷ []) h.split ∙ append_assoc h.earlier (h.begin ∷ h.since) (m ∷ []);
    begun = h.begun;
    is = subst Then (sym (writes_of-push h.since m)) (leads (writes_of h.since) h.is);
  }

  -- it writes nothing now
  pub wrote_still : (Is : List (Act Page Reply) → Type 0) → writes_in m.event.act ≡ [] → Wrote ms Is → Wrote (ms ++ m ∷ []) Is
  wrote_still Is quiet h = wrote_on (λ acts is. subst Is (sym (ap (λ z. acts ++ z) quiet ∙ append-nil acts)) is) h

  pub unwritten_on : writes_in m.event.act ≡ [] → Unwritten ms → Unwritten (ms ++ m ∷ [])
  unwritten_on quiet h = unwritten_since ms (m ∷ []) h refl (append-nil (writes_in m.event.act) ∙ quiet)

  -- it begins now, and had written nothing before
  pub unwritten_now : m.event.act ≡ Act.Begin → writes_of ms ≡ [] → Unwritten (ms ++ m ∷ [])
  unwritten_now e none = ((m, Contains-push ms m, e), writes_of-push ms m ∙ (λ i. none i ++ writes_in (e i)))

  -- it has written nothing, and does not now
  pub none_written : writes_in m.event.act ≡ [] → writes_of ms ≡ [] → writes_of (ms ++ m ∷ []) ≡ []
  none_written quiet none = writes_of-push ms m ∙ (λ i. none i ++ quiet i)

  -- it latches a page now, and has written nothing before
  pub latched_now : {x : ℕ} → m.event.act ≡ Latch x → Unwritten ms → WroteHeld (ms ++ m ∷ []) x []
  latched_now e first = record { before = ms; first = first; latch = m; since = []; split = refl; latched = e; writes_are = refl }

  -- it writes this now
  pub held_writes : {x : ℕ} {acts : List (Act Page Reply)} (new : List (Act Page Reply)) → writes_in m.event.act ≡ new → WroteHeld ms x acts → WroteHeld (ms ++ m ∷ []) x (acts ++ new)
  held_writes {x} {acts} new did h = record {
    before = h.before;
    first = h.first;
    latch = h.latch;
    since = h.since ++ m ∷ [];
    split = ap (λ z. z ++ m ∷ []) h.split ∙ append_assoc h.before (h.latch ∷ h.since) (m ∷ []);
    latched = h.latched;
    writes_are = writes_of-push h.since m ∙ (ap (λ z. z ++ writes_in m.event.act) h.writes_are ∙ ap (λ z. acts ++ z) did);
  }

  pub held_still : {x : ℕ} {acts : List (Act Page Reply)} → writes_in m.event.act ≡ [] → WroteHeld ms x acts → WroteHeld (ms ++ m ∷ []) x acts
  held_still {x} {acts} quiet h = subst (WroteHeld (ms ++ m ∷ []) x) (append-nil acts) (held_writes [] quiet h)

  abbrev pub got_on : {x : ℕ} {c : Page} → HasGot ms x c → HasGot (ms ++ m ∷ []) x c
  got_on h = record { mark = h.mark; is = Contains-append_left ms (m ∷ []) h.mark h.is; act = h.act; saw = h.saw }

  pub got_last : {x : ℕ} {c : Page} → m.event.act ≡ Get x → m.saw ≡ Some c → HasGot (ms ++ m ∷ []) x c
  got_last act saw = record { mark = m; is = Contains-push ms m; act = act; saw = saw }

  abbrev pub under_on : {level x : ℕ} → writes_in m.event.act ≡ [] → UnderLatch level ms x → UnderLatch level (ms ++ m ∷ []) x
  under_on quiet u = record {
    before = u.before;
    latch = u.latch;
    during = u.during;
    after = u.after ++ m ∷ [];
    split = ap (λ z. z ++ m ∷ []) u.split ∙ (append_assoc u.before (u.latch ∷ (u.during ++ u.after)) (m ∷ [])
        ∙ ap (λ z. u.before ++ u.latch ∷ z) (append_assoc u.during u.after (m ∷ [])));
    first = u.first;
    latched = u.latched;
    kept = u.kept;
    no_more = writes_of-push u.after m ∙ (ap (λ z. z ++ writes_in m.event.act) u.no_more ∙ quiet);
  }

  abbrev pub parent_on : {level key : ℕ} → writes_in m.event.act ≡ [] → AtParent level key ms → AtParent level key (ms ++ m ∷ [])
  parent_on quiet a = record { at = a.at; under = under_on quiet a.under; parent = a.parent; got = a.got; level_is = a.level_is; covers = a.covers }

  pub done_on : {level key : ℕ} {separator : Option ℕ} → writes_in m.event.act ≡ [] → MeansDone level key separator ms → MeansDone level key separator (ms ++ m ∷ [])
  done_on quiet d = record { parent = parent_on quiet d.parent; child = d.child; low = d.low; pages = d.pages; writes = d.writes; lists = d.lists }

  pub already_on : {level key : ℕ} → writes_in m.event.act ≡ [] → MeansAlready level key ms → MeansAlready level key (ms ++ m ∷ [])
  already_on quiet a = record { parent = parent_on quiet a.parent; none = a.none; child = a.child; listed = a.listed }

  pub stale_on : {level key : ℕ} → writes_in m.event.act ≡ [] → MeansStale level key ms → MeansStale level key (ms ++ m ∷ [])
  stale_on quiet s = elim s [
    | inl f ↦ inl (record { first = wrote_still _ quiet f.first; anchor = f.anchor; got = got_on f.got; few = f.few })
    | inr o ↦ inr (record { parent = parent_on quiet o.parent; none = o.none; child = o.child; low = o.low })
  ]

  pub tall_on : {level : ℕ} → writes_in m.event.act ≡ [] → MeansTooTall level ms → MeansTooTall level (ms ++ m ∷ [])
  tall_on quiet t = record { last = t.last; first = wrote_still _ quiet t.first; anchor = t.anchor; got = got_on t.got; full = t.full }

  pub no_room_on : {level : ℕ} → writes_in m.event.act ≡ [] → MeansNoRoom level ms → MeansNoRoom level (ms ++ m ∷ [])
  no_room_on quiet n = record { at = n.at; under = under_on quiet n.under; none = n.none; mark = n.mark; is = n.is; refused = n.refused }
