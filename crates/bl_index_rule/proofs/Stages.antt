-- Each hand after a turn of one of them.
use Rattle.std.proofs.Common.{ℕ, Bool, ◌≡◌, ◌≢◌, ◌≤◌, ◌++◌, Option, List, [], ◌∷◌, refl, sym, ap, ◌∙◌, subst, arith, append-nil, append_assoc, le_refl}
use Rattle.bl_model.specs.declared.operation.Entry.{Entry}
use Rattle.bl_model.specs.declared.operation.Reply.{Reply}
use Rattle.bl_page.specs.declared.page.Page.{Page}
use Rattle.bl_page.specs.Machine.{Name, State, Act}
use Rattle.bl_page.specs.Machine as machine
use Rattle.bl_claims.specs.Trails.{Mark, Trail, entries_at, IsMarked, HasSaid}
use Rattle.bl_tree_worlds.specs.Worlds.{World, IsGood}
use Rattle.bl_tree_worlds.specs.Blank.{IsBlank}
use Rattle.bl_proc_invariant.specs.Turns.{Turned}
use Rattle.bl_proc_invariant.specs.Knowing.{Run, know}
use Rattle.bl_store_rule.specs.Pages.{Stage, Idle, Running}
use Rattle.bl_index_rule.specs.declared.known.PassState.{PassState}
use Rattle.bl_claims.specs.Seeing.{own, name}
use Rattle.bl_index_rule.specs.Simulation.{IsAtStage, AreUpTo, IsHand}
use Rattle.bl_index_rule.proofs.Doings.{log_else}
use Rattle.bl_index_rule.proofs.Entries.{own-other, own-mine, said_grows}
use Rattle.bl_index_rule.proofs.Marks.{each_append, up_to_on}

pub pass_of : (p q : Name) → p ≡ q → p.pass ≡ q.pass
pass_of p q e = ap (λ (z : Name). z.pass) e

pub number_of : (p q : Name) → p ≡ q → p.number ≡ q.number
number_of p q e = ap (λ (z : Name). z.number) e

module _ (w : World Run) (good : IsGood know w) (n m : ℕ) (a : Act Page Reply) (s : State Page) (b : Run) (t : Turned know w (name n m) a s b) where
  -- the mark of the turn
  abbrev pub turn_mark : Mark
  turn_mark = record { event = record { process = name n m; act = a }; saw = t.saw; said = t.said }

  -- what the acting hand knows then
  abbrev pub after : ℕ → List (Option Page) → Bool → List Entry → PassState
  after passes first runs past = record { pass = n; pages = w.size; passes = passes; number = m; runs = runs; state = b.state; first = first; past = past; trail = t.next.trail }

  -- what it has said by then
  pub own_after : (past : List Entry) → own n w.trail ≡ past ++ entries_at (name n m) (know (w.proc (name n m))).said → own n t.next.trail ≡ past ++ entries_at (name n m) (know (t.next.proc (name n m))).said
  own_after past was =
      let p = name n m in
      let sure = (good.sure p).said in
      let sure' : HasSaid (w.trail ++ turn_mark ∷ []) p (know (t.next.proc p)).said = subst (λ l. HasSaid l p (know (t.next.proc p)).said) t.extends.trail (t.good.sure p).said in
      let marked : IsMarked (w.trail ++ turn_mark ∷ []) = subst IsMarked t.extends.trail t.good.recorded.marked in
      let grown = said_grows w.trail turn_mark marked (know (w.proc p)).said (know (t.next.proc p)).said sure sure' in
      ap (own n) t.extends.trail ∙ (own-mine n w.trail turn_mark refl ∙ (ap (λ (l : List Entry). l ++ entries_at p t.said) was ∙ (append_assoc past (entries_at p (know (w.proc p)).said) (entries_at p t.said) ∙ ap (λ (l : List Entry). past ++ l) grown)))

  module _ (others : (q : Name) → q ≢ name n m → s.phase q ≡ w.now.phase q) (kept : (x : ℕ) (q : Name) → q ≢ name n m → s.owner x ≡ machine.Held q → w.now.owner x ≡ machine.Held q) where
    phase_else : (q : Name) → q ≢ name n m → t.next.now.phase q ≡ w.now.phase q
    phase_else q ne = ap (λ (z : State Page). z.phase q) t.now ∙ others q ne

    later_on : (k j : ℕ) → name k j ≢ name n m → (w.now.phase (name k j) ≡ machine.Waiting) × IsBlank (know (w.proc (name k j))) → (t.next.now.phase (name k j) ≡ machine.Waiting) × IsBlank (know (t.next.proc (name k j)))
    later_on k j ne h = (phase_else (name k j) ne ∙ h.0, subst (λ (r : Run). IsBlank (know r)) (sym (t.extends.proc.others (name k j) ne)) h.1)

    pub hand_self : (st st' : Stage) (d : PassState) (passes : ℕ) (first : List (Option Page)) (runs : Bool) (past : List Entry) → IsHand w n st d → d.number ≤ m → IsAtStage t.next n st' (after passes first runs past) → IsHand t.next n st' (after passes first runs past)
    hand_self st st' d passes first runs past h le stage = record {
      named = λ begun. (refl, sym t.extends.size);
      stage = stage;
      later = λ j l. later_on n j (λ e. let f = number_of _ _ e in absurd (omega arith)) (h.later j (omega arith));
      begins = ([], sym (append-nil t.next.trail), tt);
      counted = subst (AreUpTo n m) (sym (t.extends.trail ∙ ap (λ (l : Trail). l ++ turn_mark ∷ []) h.begins.1)) (up_to_on n d.number m d.trail h.begins.0 turn_mark h.counted h.begins.2 le (λ e. le_refl m));
      mine = refl;
    }

    own_else : (k : ℕ) → k ≢ n → own k t.next.trail ≡ own k w.trail
    own_else k ne = ap (own k) t.extends.trail ∙ own-other k w.trail turn_mark (λ e. ne (sym e))

    stage_else : (k : ℕ) (st : Stage) (d : PassState) → k ≢ n → IsAtStage w k st d → IsAtStage t.next k st d
    stage_else k Idle d ne h = (h.0, λ x e. h.1 x (kept x (name k d.number) (λ z. ne (pass_of _ _ z)) (ap (λ (z : State Page). z.owner x) (sym t.now) ∙ e)))
    stage_else k (Running since) d ne h =
        let p = name k d.number in
        let other : p ≢ name n m = λ e. ne (pass_of _ _ e) in
        let same = t.extends.proc.others p other in (
          h.0,
          h.1,
          (h.2.0, h.2.1, phase_else p other ∙ h.2.2),
          ap (λ (r : Run). r.state) same ∙ h.3,
          own_else k ne ∙ (h.4 ∙ ap (λ (r : Run). d.past ++ entries_at p (know r).said) (sym same)),
          log_else w (name n m) p a s b t other d.state h.5,
        )

    pub hand_else : (k : ℕ) (st : Stage) (d : PassState) → k ≢ n → IsHand w k st d → IsHand t.next k st d
    hand_else k st d ne h = record {
      named = λ begun. let z = h.named begun in (z.0, z.1 ∙ sym t.extends.size);
      stage = stage_else k st d ne h.stage;
      later = λ j l. later_on k j (λ e. ne (pass_of _ _ e)) (h.later j l);
      begins = (
        h.begins.0 ++ turn_mark ∷ [],
        t.extends.trail ∙ (ap (λ (l : Trail). l ++ turn_mark ∷ []) h.begins.1 ∙ append_assoc d.trail h.begins.0 (turn_mark ∷ [])),
        each_append _ h.begins.0 (turn_mark ∷ []) h.begins.2 ((λ e. ne (sym e)), tt),
      );
      counted = h.counted;
      mine = own_else k ne ∙ h.mine;
    }
