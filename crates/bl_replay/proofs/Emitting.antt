-- Text that goes out by way of a buffer, piece by piece.
use Rattle.std.proofs.Common.{◌≡◌, ℕ, List, [], ◌++◌, ap, sym, ◌∙◌, append_assoc, append-nil, subst, Result, Ok, Err, OnOk, OnErr}
use Rattle.std.specs.Prelude.{Option}
use Rattle.std.proofs.KnownBytes.{Appends-trans, Appends-nil}
use Rattle.std.specs.Io.KnownBytes.{Appends}
use Rattle.bl_model.specs.Stream.{StartsOut}
use Rattle.bl_replay.specs.Emits.{Emits}

pub emits_start : (a : Option (List ℕ)) (p : List ℕ) → Emits a a p p []
emits_start a p = ([], Appends-nil a, append-nil p)

-- two pieces, one behind the other
both : (p q s t o r : List ℕ) → p ++ s ≡ o ++ q → q ++ t ≡ r → p ++ (s ++ t) ≡ o ++ r
both p q s t o r e f = sym (append_assoc p s t) ∙ ap (λ z. z ++ t) e ∙ append_assoc o q t ∙ ap (λ z. o ++ z) f

pub emits_more : (a b c : Option (List ℕ)) (p q r s t : List ℕ) → Emits a b p q s → Emits b c q r t → Emits a c p r (s ++ t)
emits_more a b c p q r s t (o, k, e) (o', k', e') = (o ++ o', Appends-trans a b c o o' k k', both p q s t o (o' ++ r) e e' ∙ sym (append_assoc o o' r))

-- a beginning of what is pending and of a further piece went out
pub emits_stop : (a b c : Option (List ℕ)) (p q s t : List ℕ) → Emits a b p q s → StartsOut b c (q ++ t) → StartsOut a c (p ++ (s ++ t))
emits_stop a b c p q s t (o, k, e) (out, rest, is, k') = (o ++ out, rest, both p q s t o (out ++ rest) e is ∙ sym (append_assoc o out rest), Appends-trans a b c o out k k')

-- what was added was still pending
pub stops_grown : (a b : Option (List ℕ)) (p grown s : List ℕ) → grown ≡ p ++ s → StartsOut a b grown → StartsOut a b (p ++ s)
stops_grown a b p grown s e h = subst (StartsOut a b) e h

pub ok_map : {A E P Q : Type 0} (r : Result A E) → (P → Q) → OnOk r P → OnOk r Q
ok_map (Ok a) f h = f h
ok_map (Err e) f h = tt

pub err_map : {A E P Q : Type 0} (r : Result A E) → (P → Q) → OnErr r P → OnErr r Q
err_map (Ok a) f h = tt
err_map (Err e) f h = f h

pub err_of : {A E Q : Type 0} (r : Result A E) → Q → OnErr r Q
err_of (Ok a) q = tt
err_of (Err e) q = q

-- all that was pending went out in the end, or a beginning of it
pub emits_all : (a b c : Option (List ℕ)) (p q s : List ℕ) → p ≡ [] → Emits a b p q s → Appends b c q → Appends a c s
emits_all a b c p q s e (o, k, is) h = subst (Appends a c) (sym (ap (λ z. z ++ s) (sym e) ∙ is)) (Appends-trans a b c o q k h)

pub emits_last : (a b c : Option (List ℕ)) (p q s : List ℕ) → p ≡ [] → Emits a b p q s → StartsOut b c q → StartsOut a c s
emits_last a b c p q s e (o, k, is) (out, rest, parts, k') = (o ++ out, rest, ap (λ z. z ++ s) (sym e) ∙ is ∙ ap (λ z. o ++ z) parts ∙ sym (append_assoc o out rest), Appends-trans a b c o out k k')

pub stops_first : (a b : Option (List ℕ)) (p s : List ℕ) → p ≡ [] → StartsOut a b (p ++ s) → StartsOut a b s
stops_first a b p s e h = subst (λ z. StartsOut a b (z ++ s)) e h
