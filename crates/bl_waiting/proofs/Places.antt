-- Each place has a hint, when one more stands behind the others, and when the oldest is gone.
use Rattle.std.proofs.Common.{◌≡◌, ◌++◌, true, Option, Some, None, List, [], ◌∷◌, refl, sym, ap, ◌∙◌}
use Rattle.std.specs.Prelude.{is_some}
use Rattle.std.specs.List.{list_all}
use Rattle.bl_answers.specs.declared.answers.Hint.{Hint}

pub one_more : (xs : List (Option Hint)) (h : Hint) → list_all is_some xs ≡ true → list_all is_some (xs ++ Some h ∷ []) ≡ true
one_more [] h all = refl
one_more (None ∷ xs) h all = absurd (let f = all in cc)
one_more (Some x ∷ xs) h all = one_more xs h all

pub one_less : (xs ys : List (Option Hint)) (x : Option Hint) → xs ≡ x ∷ ys → list_all is_some xs ≡ true → list_all is_some ys ≡ true
one_less xs ys None is all = absurd (let f : list_all is_some (None ∷ ys) ≡ true = ap (list_all is_some) (sym is) ∙ all in cc)
one_less xs ys (Some h) is all = ap (list_all is_some) (sym is) ∙ all
