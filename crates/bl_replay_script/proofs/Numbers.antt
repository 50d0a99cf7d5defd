-- A text spells one number, one pair of numbers or one triple.
use Rattle.std.proofs.Common.{◌≡◌, ℕ, ◌+◌, ◌<◌, ◌^◌, List, [], ◌∷◌, ◌++◌, length, take, drop, refl, ap, sym, ◌∙◌, decimal, arith}
use Rattle.std.proofs.lemmas.List.{append_cancel_left}
use Rattle.std.proofs.lemmas.Fmt.{digits_value-decimal}
use Rattle.bl_serve_lines.proofs.Numbers.{own, read_on, in_two, at_middle, two_none, three_apart}
use Rattle.bl_replay_script.specs.Commands.{one, two, three}

pub one_same : (a b : ℕ) → a < 2 ^ 64 → b < 2 ^ 64 → one a ≡ one b → a ≡ b
one_same a b small_a small_b e = sym (digits_value-decimal own a small_a) ∙ ap (read_on 0) e ∙ digits_value-decimal own b small_b

-- the same number before a space has the same text behind it
front_same : (a d : ℕ) (rest other : List ℕ) → a < 2 ^ 64 → d < 2 ^ 64 → decimal a ++ 32 ∷ [] ++ rest ≡ decimal d ++ 32 ∷ [] ++ other → (a ≡ d) × (rest ≡ other)
front_same a d rest other small_a small_d e =
    let text = decimal a ++ 32 ∷ [] ++ rest in
    let here = at_middle text a rest refl in
    let there = at_middle text d other e in
    let at : length (decimal a) ≡ length (decimal d) = two_none text (length (decimal a)) d other (λ k lt space. in_two text a rest k small_a refl lt space) (λ lt. here.1) (omega (arith, here.0)) small_d e in (
      one_same a d small_a small_d (sym here.2 ∙ ap (λ i. take i text) at ∙ there.2),
      sym here.3 ∙ ap (λ i. drop (i + 1) text) at ∙ there.3,
    )

pub two_same : (a b c d : ℕ) → a < 2 ^ 64 → b < 2 ^ 64 → c < 2 ^ 64 → d < 2 ^ 64 → two a b ≡ two c d → (a ≡ c) × (b ≡ d)
two_same a b c d small_a small_b small_c small_d e = let front = front_same a c (decimal b) (decimal d) small_a small_c e in
    (front.0, one_same b d small_b small_d front.1)

pub three_same : (a b c x y z : ℕ) → a < 2 ^ 64 → b < 2 ^ 64 → c < 2 ^ 64 → x < 2 ^ 64 → y < 2 ^ 64 → z < 2 ^ 64 → three a b c ≡ three x y z → (a ≡ x) × (b ≡ y) × (c ≡ z)
three_same a b c x y z small_a small_b small_c small_x small_y small_z e = let front = front_same a x (two b c) (two y z) small_a small_x (sym (three_apart a b c) ∙ e ∙ three_apart x y z) in
    let behind = two_same b c y z small_b small_c small_y small_z front.1 in
    (front.0, behind.0, behind.1)

-- the line has another number behind the word
pub other_one : (line word rest : List ℕ) (n a : ℕ) → line ≡ word ++ rest → rest ≡ one n → n < 2 ^ 64 → a < 2 ^ 64 → line ≡ word ++ one a → a ≡ n
other_one line word rest n a is number small small_a e = sym (one_same n a small small_a (sym number ∙ append_cancel_left word rest (one a) (sym is ∙ e)))

pub other_two : (line word rest : List ℕ) (m n a b : ℕ) → line ≡ word ++ rest → rest ≡ two m n → m < 2 ^ 64 → n < 2 ^ 64 → a < 2 ^ 64 → b < 2 ^ 64 → line ≡ word ++ two a b → (a ≡ m) × (b ≡ n)
other_two line word rest m n a b is numbers small_m small_n small_a small_b e =
    let same = two_same m n a b small_m small_n small_a small_b (sym numbers ∙ append_cancel_left word rest (two a b) (sym is ∙ e)) in
    (sym same.0, sym same.1)
