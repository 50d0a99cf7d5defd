-- What entering a pair gives, whole or split.
use Rattle.std.proofs.Common.{◌≡◌, ℕ, List, [], ◌∷◌, ◌++◌, length, get_or, Option, Some, None, refl, ap, sym, subst, ◌∙◌, arith}
use Rattle.std.specs.Prelude.{IsSome}
use Rattle.std.proofs.lemmas.Bool.{false≢true}
use Rattle.bl_model.specs.Rows.{map_of}
use Rattle.bl_page.specs.Pairs.{RisesFrom, AllWithin, BeginsWith, NameChildren, IsWithin, IsChild}
use Rattle.bl_rearrange.specs.Entered.{entered, dropped, replaced, IsEntered, IsDropped, IsReplaced, AreHalves}
use Rattle.bl_rearrange.proofs.EnteredLemmas.{length-entered, map_of-entered, RisesFrom-entered, AllWithin-entered, BeginsWith-entered, NameChildren-entered, length-dropped_le, length-dropped, RisesFrom-dropped, AllWithin-dropped, BeginsWith-dropped, NameChildren-dropped, map_of-dropped, length-replaced, RisesFrom-replaced, AllWithin-replaced, BeginsWith-replaced, NameChildren-replaced, map_of-replaced}
use Rattle.bl_rearrange.proofs.Cuts.{cut, NameChildren-append, RisesFrom-lower}

pub entered_is : (low high key word : ℕ) (old : List (ℕ × ℕ)) → RisesFrom 0 old → AllWithin low high old → IsWithin low high key → map_of old key ≡ None
    → IsEntered low high key word old (entered key word old)
entered_is low high key word old rises within covers absent = record {
  count = length-entered key word old;
  rising = RisesFrom-entered key word 0 old (omega arith) absent rises;
  within = AllWithin-entered key word low high old covers within;
  first = λ h. BeginsWith-entered key word low old covers.0 absent h;
  children = λ is h. NameChildren-entered key word old is h;
  map = map_of-entered key word old absent;
}

first_of : (low : ℕ) (x : ℕ × ℕ) (xs ys : List (ℕ × ℕ)) → BeginsWith low (x ∷ xs ++ ys) → BeginsWith low (x ∷ xs)
first_of low x xs ys h = h

pub halves_are : (low high key word : ℕ) (old lower upper : List (ℕ × ℕ)) → RisesFrom 0 old → AllWithin low high old → IsWithin low high key → map_of old key ≡ None
    → lower ++ upper ≡ entered key word old → length lower ≡ 8 → length upper ≡ 7 → AreHalves low high key word old lower upper (get_or upper 0 (0, 0)).0
halves_are low high key word old [] upper rises within covers absent is few some = absurd (omega arith)
halves_are low high key word old (x ∷ xs) [] rises within covers absent is few some = absurd (omega arith)
halves_are low high key word old (x ∷ xs) (y ∷ ys) rises within covers absent is few some =
    let whole = entered_is low high key word old rises within covers absent in
    let parts = cut low high x xs y ys (subst (RisesFrom 0) (sym is) whole.rising) (subst (AllWithin low high) (sym is) whole.within) in
    let names = λ (c : IsChild word) (h : NameChildren old). NameChildren-append (x ∷ xs) (y ∷ ys) (subst NameChildren (sym is) (whole.children c h)) in
    record {
      lower_count = few;
      upper_count = some;
      above = parts.above;
      below = parts.below;
      lower_rising = RisesFrom-lower 0 low (x ∷ xs) (omega arith) parts.xs_rise;
      upper_rising = RisesFrom-lower 0 y.0 (y ∷ ys) (omega arith) parts.ys_rise;
      lower_within = parts.xs_within;
      upper_within = parts.ys_within;
      lower_first = λ h. first_of low x xs (y ∷ ys) (subst (BeginsWith low) (sym is) (whole.first h));
      upper_first = refl;
      lower_children = λ c h. let both = names c h in both.0;
      upper_children = λ c h. let both = names c h in both.1;
      lower_map = λ j lt. parts.lower j lt ∙ ap (λ pairs. map_of pairs j) is ∙ whole.map j;
      upper_map = λ j le. parts.upper j le ∙ ap (λ pairs. map_of pairs j) is ∙ whole.map j;
    }

pub some_value : (o : Option ℕ) → IsSome o → (value : ℕ) × (o ≡ Some value)
some_value (Some value) h = (value, refl)
some_value None h = absurd (false≢true h)

pub dropped_is : (low high key : ℕ) (old : List (ℕ × ℕ)) → RisesFrom 0 old → AllWithin low high old → IsDropped low high key old (dropped key old)
dropped_is low high key old rises within = record {
  count = length-dropped_le key old;
  one_less = λ listed. let some = some_value (map_of old key) listed in length-dropped key some.0 old some.1;
  rising = RisesFrom-dropped key 0 old rises;
  within = AllWithin-dropped key low high old within;
  first = λ other h. BeginsWith-dropped key low old other h;
  children = λ h. NameChildren-dropped key old h;
  map = map_of-dropped key 0 old rises;
}

pub replaced_is : (low high key word : ℕ) (old : List (ℕ × ℕ)) → RisesFrom 0 old → AllWithin low high old → IsSome (map_of old key) → IsReplaced low high key word old (replaced key word old)
replaced_is low high key word old rises within listed = record {
  count = length-replaced key word old;
  rising = RisesFrom-replaced key word 0 old rises;
  within = AllWithin-replaced key word low high old within;
  first = λ h. BeginsWith-replaced key word low old h;
  children = λ is h. NameChildren-replaced key word old is h;
  map = (let some = some_value (map_of old key) listed in map_of-replaced key word some.0 old some.1);
}
