-- What a search or a part has done, and one event more: it has written nothing.
use Rattle.std.proofs.Common.{ℕ, ◌≡◌, refl, ◌++◌, List, [], ◌∷◌, Some, ap, sym, ◌∙◌}
use Rattle.std.specs.Prelude.{slice_get, zero, suc}
use Rattle.bl_model.specs.declared.operation.Reply.{Reply}
use Rattle.bl_page.specs.declared.page.Page.{Page}
use Rattle.bl_page.specs.Machine.{Act}
use Rattle.bl_claims.specs.Trails.{Mark, Trail}
use Rattle.bl_claims.specs.Meanings.{writes_in, writes_of}
use Rattle.bl_claims.specs.Latches.{LatchesNone, OnlyLooks}
use Rattle.bl_tree_worlds.proofs.Meant.{writes_of-push}
use Rattle.bl_proc_steps.specs.declared.acts.Seen.{Seen}
use Rattle.bl_proc.specs.declared.searching.FindStage.{FindStage}
use Rattle.bl_proc.specs.declared.parts.PartStage.{PartStage}
use Rattle.bl_proc.specs.declared.parts.PartStart.{PartStart}
use Rattle.bl_proc.specs.Searches.{find_next_in}
use Rattle.bl_proc.specs.Parts.{part_next_in}
use Rattle.bl_proc_invariant.specs.Turns.{event_of}
use Rattle.bl_proc_invariant.specs.Knowing.{find_end, part_end}
use Rattle.bl_proc_deterministic.proofs.KindCases.{FindCase, PartCase}

find_writes : {key : ℕ} {a b : FindStage} {what : Seen} → FindCase key a what b → writes_in (event_of (find_end a) (find_next_in a) what) ≡ []
find_writes (FindCase.Began d t) = refl
find_writes (FindCase.BeganNear x y t) = refl
find_writes (FindCase.Looked x free d t) = refl
find_writes (FindCase.Went d c e t) = refl
find_writes (FindCase.Found d c value t) = refl
find_writes (FindCase.Ended value last t) = refl

part_writes : {from : PartStart} {a b : PartStage} {what : Seen} → PartCase from a what b → writes_in (event_of (part_end a) (part_next_in a) what) ≡ []
part_writes (PartCase.Began d t) = refl
part_writes (PartCase.BeganNear x y t) = refl
part_writes (PartCase.Looked x free d t) = refl
part_writes (PartCase.Went d c e t) = refl
part_writes (PartCase.Listed d c r t) = refl
part_writes (PartCase.Ended r last t) = refl

module _ (marks : Trail) (m : Mark) where
  pub looking_on : writes_in m.event.act ≡ [] → writes_of marks ≡ [] → writes_of (marks ++ m ∷ []) ≡ []
  looking_on quiet h = writes_of-push marks m ∙ (λ i. h i ++ quiet i)

  pub find_on : {key : ℕ} {a b : FindStage} {what : Seen} → FindCase key a what b → m.event.act ≡ event_of (find_end a) (find_next_in a) what → writes_of marks ≡ [] → writes_of (marks ++ m ∷ []) ≡ []
  find_on t did h = looking_on (ap writes_in did ∙ find_writes t) h

  pub part_on : {from : PartStart} {a b : PartStage} {what : Seen} → PartCase from a what b → m.event.act ≡ event_of (part_end a) (part_next_in a) what → writes_of marks ≡ [] → writes_of (marks ++ m ∷ []) ≡ []
  part_on t did h = looking_on (ap writes_in did ∙ part_writes t) h

-- Who latches and writes nothing only looks.

first_none : (xs ys : List (Act Page Reply)) → xs ++ ys ≡ [] → xs ≡ []
first_none [] ys e = refl
first_none (x ∷ xs) ys e = absurd cc

rest_none : (xs ys : List (Act Page Reply)) → xs ++ ys ≡ [] → ys ≡ []
rest_none [] ys e = e
rest_none (x ∷ xs) ys e = absurd cc

each_quiet : (marks : Trail) → writes_of marks ≡ [] → (i : ℕ) (m : Mark) → slice_get marks i ≡ Some m → writes_in m.event.act ≡ []
each_quiet [] none i m e = absurd cc
each_quiet (n ∷ marks) none zero m e = let same : n ≡ m = cc in ap (λ (v : Mark). writes_in v.event.act) (sym same) ∙ first_none (writes_in n.event.act) (writes_of marks) none
each_quiet (n ∷ marks) none (suc i) m e = each_quiet marks (rest_none (writes_in n.event.act) (writes_of marks) none) i m e

no_write : (a b : Act Page Reply) → writes_in a ≡ [] → writes_in b ≡ b ∷ [] → a ≡ b → ⊥
no_write a b quiet loud e = let f : b ∷ [] ≡ [] = sym loud ∙ (ap writes_in (sym e) ∙ quiet) in absurd cc

pub only_looks : (marks : Trail) → LatchesNone marks → writes_of marks ≡ [] → OnlyLooks marks
only_looks marks latches none i m at x =
    let quiet = each_quiet marks none i m at in (
      latches i m x at,
      no_write m.event.act (Act.Take x) quiet refl,
      λ c. no_write m.event.act (Act.Put x c) quiet refl,
      no_write m.event.act (Act.Retire x) quiet refl,
      no_write m.event.act (Act.Release x) quiet refl,
    )
