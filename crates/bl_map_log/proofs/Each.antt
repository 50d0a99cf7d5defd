-- Lists whose elements are changed, one after another.
use Rattle.std.proofs.Common.{◌≡◌, ℕ, ◌+◌, ◌<◌, ◌≤◌, List, [], ◌∷◌, ◌++◌, length, take, drop, set, get_or, refl, sym, ap, ◌∙◌, subst, arith, add-one}
use Rattle.std.specs.Prelude.{All}
use Rattle.std.specs.List.{AllZip}
use Rattle.std.proofs.lemmas.List.Elements.{All-nil, All-cons, All-head, All-tail, AllZip-push}
use Rattle.std.proofs.lemmas.List.{take_more, take_all}
use Rattle.bl_map.proofs.Elements.{take_set, next_is, drop_set, drop_one}

-- So many of the elements have changed so, and the others are as they were.
pub record ChangedUpTo {A : Type 0} (R : A → A → Type 0) (olds news : List A) (i : ℕ) : Type 0 where
  pub done : AllZip R (take i olds) (take i news)
  pub left : drop i news ≡ drop i olds

module _ {A : Type 0} where
  pub zip_weaker : (R S : A → A → Type 0) (xs ys : List A) → ((x y : A) → R x y → S x y) → AllZip R xs ys → AllZip S xs ys
  zip_weaker R S [] [] f h = tt
  zip_weaker R S [] (y ∷ ys) f h = absurd h
  zip_weaker R S (x ∷ xs) [] f h = absurd h
  zip_weaker R S (x ∷ xs) (y ∷ ys) f h = (f x y h.0, zip_weaker R S xs ys f h.1)

  -- one relation behind another
  pub zip_then : (R S T : A → A → Type 0) (xs ys zs : List A) → ((x y z : A) → R x y → S y z → T x z) → AllZip R xs ys → AllZip S ys zs → AllZip T xs zs
  zip_then R S T [] [] [] f h k = tt
  zip_then R S T [] [] (z ∷ zs) f h k = absurd k
  zip_then R S T [] (y ∷ ys) zs f h k = absurd h
  zip_then R S T (x ∷ xs) [] zs f h k = absurd h
  zip_then R S T (x ∷ xs) (y ∷ ys) [] f h k = absurd k
  zip_then R S T (x ∷ xs) (y ∷ ys) (z ∷ zs) f h k = (f x y z h.0 k.0, zip_then R S T xs ys zs f h.1 k.1)

  -- what is true of each, and goes on to its partner
  pub zip_goes : (P Q : A → Type 0) (R : A → A → Type 0) (xs ys : List A) → ((x y : A) → P x → R x y → Q y) → All P xs → AllZip R xs ys → All Q ys
  zip_goes P Q R [] [] f h k = All-nil Q
  zip_goes P Q R [] (y ∷ ys) f h k = absurd k
  zip_goes P Q R (x ∷ xs) [] f h k = absurd k
  zip_goes P Q R (x ∷ xs) (y ∷ ys) f h k = All-cons Q y ys (f x y (All-head P x xs h) k.0) (zip_goes P Q R xs ys f (All-tail P x xs h) k.1)

  -- what follows of each from its partner
  pub zip_front : (Q : A → Type 0) (R : A → A → Type 0) (xs ys : List A) → ((x y : A) → R x y → Q x) → AllZip R xs ys → All Q xs
  zip_front Q R [] [] f k = All-nil Q
  zip_front Q R [] (y ∷ ys) f k = absurd k
  zip_front Q R (x ∷ xs) [] f k = absurd k
  zip_front Q R (x ∷ xs) (y ∷ ys) f k = All-cons Q x xs (f x y k.0) (zip_front Q R xs ys f k.1)

  pub changed_none : (R : A → A → Type 0) (olds : List A) → ChangedUpTo R olds olds 0
  changed_none R olds = record { done = tt; left = refl }

  -- the next one is as it was
  pub next_same : (R : A → A → Type 0) (olds news : List A) (i : ℕ) (d x : A) → ChangedUpTo R olds news i → i < length news → x ≡ get_or news i d → x ≡ get_or olds i d
  next_same R olds news i d x c low at = at ∙ next_is olds news i d c.left low

  pub changed_one : (R : A → A → Type 0) (olds news : List A) (i : ℕ) (d old new : A) → length news ≡ length olds → ChangedUpTo R olds news i → i < length news → old ≡ get_or news i d → R old new → ChangedUpTo R olds (set news i new) (i + 1)
  changed_one R olds news i d old new long c low at r =
      let was : old ≡ get_or olds i d = next_same R olds news i d old c low at in record {
        done = subst (λ (z : List A). AllZip R z (take (i + 1) (set news i new))) (sym (take_more olds i d (omega (arith, low, long)) ∙ ap (λ (z : A). take i olds ++ z ∷ []) (sym was)))
            (subst (λ (z : List A). AllZip R (take i olds ++ old ∷ []) z) (sym (take_set news i new low)) (AllZip-push R (take i olds) (take i news) old new c.done r));
        left = rw add-one (drop_set news i new ∙ drop_one news olds i c.left);
      }

  pub changed_less : (R S : A → A → Type 0) (olds news : List A) (i : ℕ) → ((x y : A) → R x y → S x y) → ChangedUpTo R olds news i → ChangedUpTo S olds news i
  changed_less R S olds news i f c = record { done = zip_weaker R S (take i olds) (take i news) f c.done; left = c.left }

  pub changed_all : (R : A → A → Type 0) (olds news : List A) (i : ℕ) → length news ≡ length olds → length news ≤ i → ChangedUpTo R olds news i → AllZip R olds news
  changed_all R olds news i long end c =
      subst (λ (z : List A). AllZip R z news) (take_all i olds (omega (arith, long, end))) (subst (λ (z : List A). AllZip R (take i olds) z) (take_all i news end) c.done)
