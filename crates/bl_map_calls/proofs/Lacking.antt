-- A write that found no room has left nothing.
use Rattle.std.proofs.Common.{ℕ, ◌≡◌, ◌≢◌, Option, None, Some, List, refl, subst, sym}
use Rattle.bl_model.specs.declared.deciding.KeyWrite.TheVariants.{Insert}
use Rattle.bl_model.specs.declared.operation.Op.{Op}
use Rattle.bl_model.specs.declared.operation.Op.TheVariants as op
use Rattle.bl_model.specs.declared.operation.Reply.{Reply}
use Rattle.bl_model.specs.declared.operation.Reply.TheVariants as reply
use Rattle.bl_page.specs.declared.page.Page.{Page}
use Rattle.bl_claims.specs.Climbed.{MeansClimbed}
use Rattle.bl_claims.specs.Trails.{Trail}
use Rattle.bl_index.specs.Calls.{InsertLacks, WriteLacks}
use Rattle.bl_index.specs.declared.index.Pass.{Pass}
use Rattle.bl_answers.specs.declared.answers.Hint.{Hint}
use Rattle.bl_answers.specs.declared.answers.Posted.{Posted}
use Rattle.bl_map_calls.specs.Follows.{Makes, Written, NoneLeft, WritesLeaving}
use Rattle.bl_map_calls.specs.Waits.{WritesKey}
use Rattle.bl_map_calls.specs.Works.{Swept}
use Rattle.bl_waiting.specs.declared.waiting.Waiting.{Waiting}

-- an insertion finds no room where the key is absent
pub insert_lacks : (key value : ℕ) (before after : Pass) → InsertLacks before key after → WriteLacks before key (Insert value) after
insert_lacks key value before after lacks = record { number = lacks.number; holds = lacks.holds; is = (None, lacks.is) }

not_inserted : reply.NoRoom ≢ reply.Inserted
not_inserted = λ z. cc

climbed_none : (last : Option Posted) (left : Option Hint) (marks : Trail) → MeansClimbed reply.NoRoom last left marks → left ≡ None
climbed_none None left marks m = m.1
climbed_none (Some a) left marks m = absurd (not_inserted m.0)

makes_none : (first : List (Option Page)) (pass : ℕ) (o : Op) (next : Option Hint) (old new : Trail) → Makes first pass o reply.NoRoom next old new → next ≡ None
makes_none first pass (op.Find key) next old new m = m.hint.1
makes_none first pass (op.Insert key value) next old new m = climbed_none m.0 next _ m.1.means
makes_none first pass (op.Put key value) next old new m = climbed_none m.0 next _ m.1.means
makes_none first pass (op.Delete key) next old new m = m.hint.1
makes_none first pass (op.Change key before after) next old new m = m.hint.1
makes_none first pass (op.Part from) next old new m = m.hint.1
makes_none first pass (op.PartDown from) next old new m = m.hint.1

written_none : (first : List (Option Page)) (pass : ℕ) (o : Op) (said : Reply) (next : Option Hint) (old new : Trail) → said ≡ reply.NoRoom
    → Written first pass o said next old new → Written first pass o said None old new
written_none first pass o said next old new is w =
    let made = subst (λ (z : Reply). Makes first pass o z next w.mid new) is w.makes in
    subst (λ (z : Option Hint). Written first pass o said z old new) (makes_none first pass o next w.mid new made) w

pub refused_changes : (first : List (Option Page)) (pass : ℕ) (o : Op) (said : Reply) (next : Option Hint) (waiting : Waiting) (old new : Trail) → said ≡ reply.NoRoom
    → Written first pass o said next old new → WritesKey first pass o said waiting waiting old new
refused_changes first pass o said next waiting old new is w = record {
  hint = None;
  behind = new;
  mid = new;
  written = written_none first pass o said next old new is w;
  upkeep = (None, NoneLeft, refl);
  sweeps = Swept.Never;
}

pub refused_leaves : (first : List (Option Page)) (pass : ℕ) (o : Op) (said : Reply) (next : Option Hint) (old new : Trail) → said ≡ reply.NoRoom
    → Written first pass o said next old new → WritesLeaving first pass o said None old new
refused_leaves first pass o said next old new is w = record {
  hint = None;
  mid = new;
  written = written_none first pass o said next old new is w;
  follows = NoneLeft;
}
