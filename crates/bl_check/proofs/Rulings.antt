-- The first rule that is broken.
use Rattle.std.proofs.Common.{◌≡◌, ℕ, ◌<◌, List, length, Option, Some, None, Result, Ok, Err, refl, sym, ap, subst, ◌∙◌, arith}
use Rattle.std.specs.Prelude.{IfErr, MatchResult}
use Rattle.bl_page.specs.declared.page.Page.{Page}
use Rattle.bl_image.specs.Images.{IsImage, AreWithin}
use Rattle.bl_image.specs.declared.fault.ImageFault.TheVariants as image
use Rattle.bl_image.proofs.Wholes.{image_same, read_fault}
use Rattle.bl_check.specs.declared.fault.Fault.{Fault}
use Rattle.bl_check.specs.declared.fault.Fault.TheVariants as fault
use Rattle.bl_check.specs.Rules.{Rule, rule_number, KeepsRule, AllKeep, IsFirst}
use Rattle.bl_check.specs.Rules.Rule.{OneAnchor, Leftmost, Links, Chains, Children, NoneDead}
use Rattle.bl_check.specs.Faults.{KeptBefore, IsPageFault, Breaks, IsCheckFault, AreSoundImage}
use Rattle.bl_check.specs.Faults.Breaks.{Head, Words, Pages}
use Rattle.bl_check.proofs.Within.{sound_within}

pub kept : (rule : Rule) (pages : List (Option Page)) (found : Option ℕ) → IsFirst rule pages found → found ≡ None → AllKeep rule pages
kept rule pages found h none = subst (IsFirst rule pages) none h

pub before_4 : (pages : List (Option Page)) → AllKeep OneAnchor pages → KeptBefore 4 pages
before_4 pages a OneAnchor lt = a
before_4 pages a Leftmost lt = absurd (omega arith)
before_4 pages a Links lt = absurd (omega arith)
before_4 pages a Chains lt = absurd (omega arith)
before_4 pages a Children lt = absurd (omega arith)
before_4 pages a NoneDead lt = absurd (omega arith)

pub before_5 : (pages : List (Option Page)) → AllKeep OneAnchor pages → AllKeep Leftmost pages → KeptBefore 5 pages
before_5 pages a b OneAnchor lt = a
before_5 pages a b Leftmost lt = b
before_5 pages a b Links lt = absurd (omega arith)
before_5 pages a b Chains lt = absurd (omega arith)
before_5 pages a b Children lt = absurd (omega arith)
before_5 pages a b NoneDead lt = absurd (omega arith)

pub before_6 : (pages : List (Option Page)) → AllKeep OneAnchor pages → AllKeep Leftmost pages → AllKeep Links pages → KeptBefore 6 pages
before_6 pages a b c OneAnchor lt = a
before_6 pages a b c Leftmost lt = b
before_6 pages a b c Links lt = c
before_6 pages a b c Chains lt = absurd (omega arith)
before_6 pages a b c Children lt = absurd (omega arith)
before_6 pages a b c NoneDead lt = absurd (omega arith)

pub before_7 : (pages : List (Option Page)) → AllKeep OneAnchor pages → AllKeep Leftmost pages → AllKeep Links pages → AllKeep Chains pages → KeptBefore 7 pages
before_7 pages a b c d OneAnchor lt = a
before_7 pages a b c d Leftmost lt = b
before_7 pages a b c d Links lt = c
before_7 pages a b c d Chains lt = d
before_7 pages a b c d Children lt = absurd (omega arith)
before_7 pages a b c d NoneDead lt = absurd (omega arith)

pub before_8 : (pages : List (Option Page)) → AllKeep OneAnchor pages → AllKeep Leftmost pages → AllKeep Links pages → AllKeep Chains pages → AllKeep Children pages → KeptBefore 8 pages
before_8 pages a b c d e OneAnchor lt = a
before_8 pages a b c d e Leftmost lt = b
before_8 pages a b c d e Links lt = c
before_8 pages a b c d e Chains lt = d
before_8 pages a b c d e Children lt = e
before_8 pages a b c d e NoneDead lt = absurd (omega arith)

-- what a search for a page that breaks the rule found
pub refused : (pages : List (Option Page)) (rule : Rule) (number : ℕ) (found : Option ℕ) (f : Fault) → number ≡ rule_number rule → KeptBefore number pages → IsFirst rule pages found
    → (x : ℕ) × (found ≡ Some x) × (f ≡ fault.Rule number x) → IsPageFault f pages
refused pages rule number found f named before h (x, is, given) = subst (λ g. IsPageFault g pages) (sym given)
    (record { rule = rule; named = named; least = subst (IsFirst rule pages) is h; earlier = before })

pub at_fault : (r : Result (Unit {0}) Fault) (e f : Fault) (pages : List (Option Page)) → r ≡ Err e → e ≡ f → IsPageFault f pages → IfErr r (λ g. IsPageFault g pages)
at_fault r e f pages is same h = subst (λ r. IfErr r (λ g. IsPageFault g pages)) (sym (is ∙ ap Err same)) h

pub at_last : (r : Result (Unit {0}) Fault) (pages : List (Option Page)) (found : Option ℕ) → KeptBefore 8 pages → IsFirst NoneDead pages found
    → MatchResult r (λ _. found ≡ None) (λ f. (x : ℕ) × (found ≡ Some x) × (f ≡ fault.Rule 8 x)) → IfErr r (λ g. IsPageFault g pages)
at_last (Ok u) pages found before h k = tt
at_last (Err f) pages found before h k = refused pages NoneDead 8 found f refl before h k

-- a sound image has no fault but want of memory

pub in_bytes : (f : Fault) (pages : List (Option Page)) (bytes : List ℕ) → IsImage pages bytes → AreWithin pages → IsPageFault f pages → IsCheckFault f bytes
in_bytes (fault.Rule number x) pages bytes whole within broken = Pages pages whole within broken
in_bytes fault.Memory pages bytes whole within broken = tt

not_broken : (number x : ℕ) (bytes : List ℕ) → AreSoundImage bytes → Breaks bytes number x → ⊥
not_broken number x bytes (pages, whole, sound) (Head one zero h) = let e = read_fault image.Head pages bytes h whole (sound_within pages whole.count sound) in absurd cc
not_broken number x bytes (pages, whole, sound) (Words two h) = let e = read_fault (image.Page x) pages bytes h whole (sound_within pages whole.count sound) in absurd cc
not_broken number x bytes (pages, whole, sound) (Pages others other within broken) =
    let same = image_same others pages bytes other whole in
    broken.least.1 (subst (λ p. KeepsRule broken.rule p x) (sym same) (sound broken.rule x (subst (λ p. x < length p) same broken.least.0)))

pub sound_bytes : (f : Fault) (bytes : List ℕ) → AreSoundImage bytes → IsCheckFault f bytes → f ≡ fault.Memory
sound_bytes (fault.Rule number x) bytes sound broken = absurd (not_broken number x bytes sound broken)
sound_bytes fault.Memory bytes sound broken = refl

-- where the fault is returned

pub memory_at : {T : Type 0} (r : Result T Fault) (e f : Fault) (bytes : List ℕ) → r ≡ Err e → e ≡ f → IsCheckFault f bytes → AreSoundImage bytes → IfErr r (λ g. g ≡ fault.Memory)
memory_at r e f bytes is same h sound = subst (λ r. IfErr r (λ g. g ≡ fault.Memory)) (sym (is ∙ ap Err same)) (sound_bytes f bytes sound h)
