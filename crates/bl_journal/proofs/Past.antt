-- A file in memory goes on.
use Rattle.std.proofs.Common.{◌≡◌, inl, inr, ℕ, zero, suc, ◌+◌, ◌<◌, ◌≤◌, List, [], ◌∷◌, ◌++◌, length, take, drop, Vec, refl, sym, ◌∙◌, ap, subst, arith, length-append, append_assoc, take-append-drop}
use Rattle.std.proofs.lemmas.Bool.{cases_eq}
use Rattle.std.specs.declared.alloc.Global.{Global}
use Rattle.std.specs.Prelude.{replicate}
use Rattle.std.proofs.lemmas.List.{drop-drop, length-replicate}
use Rattle.bl_journal.specs.Files.{AreZeros, AreTorn, IsFilled, Fills, Goes}
use Rattle.bl_journal.specs.Memory.{content_at}

abbrev Contents : Type 0
Contents = List (Vec ℕ Global)

-- before the last content
before_last : (past : Contents) (v : Vec ℕ Global) (now : List ℕ) (t : ℕ) → t < length past → (other : List ℕ) → content_at (past ++ v ∷ []) now t ≡ content_at past other t
before_last [] v now t lt other = absurd (omega arith)
before_last (p ∷ past) v now zero lt other = refl
before_last (p ∷ past) v now (suc t) lt other = before_last past v now t (omega arith) other

-- where the last content stands
at_last : (past : Contents) (v : Vec ℕ Global) (now : List ℕ) (t : ℕ) → t ≡ length past → content_at (past ++ v ∷ []) now t ≡ v.items
at_last [] v now zero is = refl
at_last [] v now (suc t) is = absurd (omega arith)
at_last (p ∷ past) v now zero is = absurd (omega arith)
at_last (p ∷ past) v now (suc t) is = at_last past v now t (omega arith)

-- now
pub at_now : (past : Contents) (now : List ℕ) (t : ℕ) → length past ≤ t → content_at past now t ≡ now
at_now [] now t le = refl
at_now (p ∷ past) now zero le = absurd (omega arith)
at_now (p ∷ past) now (suc t) le = at_now past now t (omega arith)

-- what a crash may leave, at each moment
abbrev Leaves : Contents → List ℕ → ℕ → List ℕ → Type 0
Leaves past now t c = c ≡ content_at past now t

-- nothing was done
pub goes_nowhere : (past later : Contents) (old new : List ℕ) (does : List ℕ → List ℕ → Type 0) → later ≡ past → new ≡ old → does old old
    → Goes (length past) (length later) (Leaves past old) (Leaves later new) does
goes_nowhere past later old new does same is done =
    subst (λ (l : Contents). Goes (length past) (length l) (Leaves past old) (Leaves l new) does) (sym same)
    (subst (λ (n : List ℕ). Goes (length past) (length past) (Leaves past old) (Leaves past n) does) (sym is) (record {
      later = omega arith;
      since = λ t c from upto left. (old, sym (at_now past old (length past) (omega arith)), subst (λ (l : List ℕ). does old l) (sym (left ∙ at_now past old t from)) done);
      past = λ t c before left. left;
    }))

-- the content was exchanged for another
pub goes_to : (past later : Contents) (v : Vec ℕ Global) (old new : List ℕ) (does : List ℕ → List ℕ → Type 0) → v.items ≡ old → later ≡ past ++ v ∷ [] → does old old → does old new
    → Goes (length past) (length later) (Leaves past old) (Leaves later new) does
goes_to past later v old new does is same none done =
    subst (λ (l : Contents). Goes (length past) (length l) (Leaves past old) (Leaves l new) does) (sym same) (record {
      later = omega (arith, length-append past (v ∷ []));
      since = λ t c from upto left. (
        old,
        sym (at_now past old (length past) (omega arith)),
        elim (cases_eq t (length past)) [
          | inl here ↦ subst (λ (l : List ℕ). does old l) (sym (left ∙ at_last past v new t here ∙ is)) none
          | inr after ↦ subst (λ (l : List ℕ). does old l) (sym (left ∙ at_now (past ++ v ∷ []) new t (omega (arith, from, after, length-append past (v ∷ []))))) done
        ],
      );
      past = λ t c before left. left ∙ before_last past v new t before old;
    })

-- of a write over zeros there is all, or nothing
all_torn : (bytes : List ℕ) → AreTorn bytes bytes
all_torn [] = tt
all_torn (b ∷ bytes) = (inr refl, all_torn bytes)

none_torn : (bytes : List ℕ) → AreTorn (replicate (length bytes) 0) bytes
none_torn [] = tt
none_torn (b ∷ bytes) = (inl refl, none_torn bytes)

none_filled : (old bytes : List ℕ) (at : ℕ) → AreZeros old at (length bytes) → IsFilled old at (replicate (length bytes) 0) old
none_filled old bytes at are =
    let n : ℕ = length bytes in
    let zeros : List ℕ = replicate n 0 in
    let size : length zeros ≡ n = length-replicate {A = ℕ} n 0 in
    let behind : drop at old ≡ zeros ++ drop (at + length zeros) old =
    sym (take-append-drop n (drop at old)) ∙ ap (λ (l : List ℕ). l ++ drop n (drop at old)) are.zeros
    ∙ ap (λ (l : List ℕ). zeros ++ l) (drop-drop n at old ∙ ap (λ (m : ℕ). drop (at + m) old) (sym size)) in
    sym (take-append-drop at old) ∙ ap (λ (l : List ℕ). take at old ++ l) behind ∙ sym (append_assoc (take at old) zeros (drop (at + length zeros) old))

pub left_alone : (old bytes : List ℕ) (at : ℕ) → AreZeros old at (length bytes) → Fills at bytes old old
left_alone old bytes at are = (replicate (length bytes) 0, none_torn bytes, none_filled old bytes at are)

pub left_whole : (old bytes new : List ℕ) (at : ℕ) → IsFilled old at bytes new → Fills at bytes old new
left_whole old bytes new at is = (bytes, all_torn bytes, is)
