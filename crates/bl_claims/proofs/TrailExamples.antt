-- The trail of one search on the opening index: it begins, gets page 0 and page 1, finds no row there, and ends.
use Rattle.std.proofs.Common.{ℕ, ◌≡◌, ◌≤◌, Option, Some, None, zero, suc, [], ◌∷◌, arith, ap, ◌∙◌, refl}
use Rattle.bl_model.specs.declared.operation.Op.TheVariants.{Find}
use Rattle.bl_model.specs.declared.operation.Reply.{Reply}
use Rattle.bl_model.specs.declared.operation.Reply.TheVariants.{Absent}
use Rattle.bl_page.specs.declared.page.Page.{Page}
use Rattle.bl_page.specs.Machine.{Name, Act}
use Rattle.bl_page.specs.Machine.Act.{Begin, End, Get}
use Rattle.bl_claims.specs.Trails.{Said, Mark, Trail, history_of, DoesAt, SaysAt, IsPoint, Answered}

abbrev first : Name
first = record { pass = 1; number = 0 }

abbrev plain : Act Page Reply → Mark
plain act = record { event = record { process = first; act = act }; saw = None; said = None }

abbrev found_none : Said
found_none = record { op = Find 5; reply = Absent }

abbrev search : Page → Page → Trail
search anchor leaf =
    plain Begin
    ∷ record (plain (Get 0)) { saw = Some anchor }
    ∷ record (plain (Get 1)) { saw = Some leaf; said = Some found_none }
    ∷ plain (End (Some Absent))
    ∷ []

-- its history has one entry
one_entry : (anchor leaf : Page) → history_of (search anchor leaf) ≡ record { pass = 1; op = Find 5; reply = Absent } ∷ []
one_entry anchor leaf = refl

-- the second get is the point
the_point : (anchor leaf : Page) → SaysAt (search anchor leaf) 2 first found_none
the_point anchor leaf = record { mark = record (plain (Get 1)) { saw = Some leaf; said = Some found_none }; is = refl; own = refl; says = refl }

is_point : (anchor leaf : Page) → IsPoint (search anchor leaf) 2 first
is_point anchor leaf = record {
  begin = 0;
  before = omega arith;
  begun = record { mark = plain Begin; is = refl; event = refl };
  not_ended = not_ended;
}
  where
    not_ended : (j : ℕ) (answer : Option Reply) → j ≤ 2 → DoesAt (search anchor leaf) j first (End answer) → ⊥
    not_ended zero answer le d =
        let f : plain Begin ≡ d.mark = cc (d.is) in
        let k : Begin ≡ End answer = ap (λ m. m.event.act) f ∙ ap (λ e. e.act) d.event in
        cc
    not_ended (suc zero) answer le d =
        let f : record (plain (Get 0)) { saw = Some anchor } ≡ d.mark = cc (d.is) in
        let k : Get 0 ≡ End answer = ap (λ m. m.event.act) f ∙ ap (λ e. e.act) d.event in
        cc
    not_ended (suc (suc zero)) answer le d =
        let f : record (plain (Get 1)) { saw = Some leaf; said = Some found_none } ≡ d.mark = cc (d.is) in
        let k : Get 1 ≡ End answer = ap (λ m. m.event.act) f ∙ ap (λ e. e.act) d.event in
        cc
    not_ended (suc (suc (suc j))) answer le d = absurd (omega arith)

-- and at its end it has answered what stands there
has_answered : (anchor leaf : Page) → Answered (search anchor leaf) first (Some Absent)
has_answered anchor leaf = (2, found_none, the_point anchor leaf, refl)
