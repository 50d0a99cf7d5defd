-- The words of two neighbours that are evened out.
use Rattle.std.proofs.Common.{◌≡◌, ℕ, ◌+◌, ◌*◌, ◌-◌, ◌/◌, ◌%◌, ◌<◌, ◌≤◌, List, [], ◌∷◌, ◌++◌, length, get_or, take, drop, refl, sym, ap, subst, ◌∙◌, arith, take_all}
use Rattle.std.proofs.lemmas.List.{length-append, length-take-le, length-drop, take-append-drop}
use Rattle.bl_page.specs.declared.page.Page.{Page}
use Rattle.bl_page.specs.Words.{layout, entries_of, words_of}
use Rattle.bl_rearrange.specs.declared.sides.Side.{Side}
use Rattle.bl_rearrange.specs.declared.sides.Side.TheVariants as side
use Rattle.bl_rearrange.specs.declared.sides.Evened.{Evened}
use Rattle.bl_rearrange.specs.Rearranged.{pairs_of, IsNow}
use Rattle.bl_rearrange.specs.Neighbours.{AreNeighbours, together, Gains, IsEvened}
use Rattle.bl_proc_routes.proofs.Spellings.{pairs_counted}
use Rattle.bl_proc_deterministic.proofs.Pages.{begins}
use Rattle.bl_proc_deterministic.proofs.Rows.{front_one, back_one}
use Rattle.bl_index_compress.specs.Shares.{AreSharesOf}
use Rattle.bl_index_compress.proofs.Parted.{dropped}
use Rattle.bl_index_compress.proofs.Spelled.{neighbours_tree, reads, spelled_now}

first_key : (pairs : List (ℕ × ℕ)) → get_or (entries_of pairs) 0 0 ≡ (get_or pairs 0 (0, 0)).0
first_key [] = refl
first_key (pair ∷ pairs) = refl

-- which side gains
pub gains_left : (s : Side) (had has old new : ℕ) → Gains s had has old new → had ≤ has → side.Left ≡ s
gains_left side.Left had has old new g le = refl
gains_left side.Right had has old new g le = absurd (let lt = g.0 in omega arith)

pub gains_right : (s : Side) (had has old new : ℕ) → Gains s had has old new → has < had → side.Right ≡ s
gains_right side.Left had has old new g lt = absurd (let le = g.0 in omega arith)
gains_right side.Right had has old new g lt = refl

module _ (c d : Page) (v : Evened) (left right : List ℕ) (e : left ≡ words_of c) (f : right ≡ words_of d) (n : AreNeighbours c d) (is : IsEvened c d v) (half rest : ℕ) (is_half : half ≡ (together c d + 1) / 2) (is_rest : half + rest ≡ together c d) where
  abbrev both : List (ℕ × ℕ)
  both = pairs_of c ++ pairs_of d

  long : length both ≡ half + rest
  long = omega (arith, length-append (pairs_of c) (pairs_of d), is_rest)

  count : length (pairs_of v.left) ≡ length (take half both)
  count = let many = is.half in omega (arith, many, is_half, length-take-le half both (omega (arith, long)))

  whole : pairs_of v.left ++ pairs_of v.right ≡ take half both ++ drop half both
  whole = is.pairs ∙ sym (take-append-drop half both)

  lower_is : pairs_of v.left ≡ take half both
  lower_is = front_one (pairs_of v.left) (pairs_of v.right) (take half both) (drop half both) count whole

  upper_is : pairs_of v.right ≡ take rest (drop half both)
  upper_is = back_one (pairs_of v.left) (pairs_of v.right) (take half both) (drop half both) count whole ∙ sym (take_all rest (drop half both) (omega (arith, length-drop half both, long)))

  -- how many pairs the left page has then
  pub has_half : length (pairs_of v.left) ≡ half
  has_half = let many = is.half in omega (arith, many, is_half)

  module _ (separator : ℕ) (is_separator : separator ≡ get_or (entries_of both) (2 * half) 0) where
    key_is : separator ≡ v.separator
    key_is =
        let back = back_one (pairs_of v.left) (pairs_of v.right) (take half both) (drop half both) count whole in
        let there : get_or (entries_of (drop half both)) 0 0 ≡ get_or (entries_of both) (2 * half) 0 = dropped half both 0 ∙ ap (λ (k : ℕ). get_or (entries_of both) k 0) (let z : 2 * half + 0 ≡ 2 * half = omega arith in z) in
        is_separator ∙ (sym there ∙ (first_key (drop half both) ∙ (ap (λ (z : List (ℕ × ℕ)). (get_or z 0 (0, 0)).0) (sym back) ∙ sym (begins v.separator (pairs_of v.right) is.separator))))

    pub shares : (lower upper : List ℕ) (s : Side) → lower ≡ layout (get_or left 0 0 - get_or left 0 0 % 65536 + half) (get_or left 1 0) separator (get_or left 3 0) (entries_of (take half both))
        → upper ≡ layout (get_or right 0 0 - get_or right 0 0 % 65536 + rest) separator (get_or right 2 0) (get_or right 3 0) (entries_of (take rest (drop half both))) → s ≡ v.gains → AreSharesOf v (record { left = lower; right = upper; separator = separator; gains = s })
    shares lower upper s is_lower is_upper gains =
        let tree = neighbours_tree c d n in
        let one = reads c left e in let two = reads d right f in
        let left_count = pairs_counted c left tree.0 e in let right_count = pairs_counted d right tree.1 f in
        let left_now : IsNow (get_or left 1 0) separator (get_or left 3 0) c v.left = subst (λ (z : ℕ × ℕ × ℕ). IsNow z.0 z.1 z.2 c v.left) (λ i. (sym one.low i, sym key_is i, sym one.right i)) is.left_frame in
        let right_now : IsNow separator (get_or right 2 0) (get_or right 3 0) d v.right = subst (λ (z : ℕ × ℕ × ℕ). IsNow z.0 z.1 z.2 d v.right) (λ i. (sym key_is i, sym two.high i, sym two.right i)) is.right_frame in
        let some : length (take half both) ≡ half = length-take-le half both (omega (arith, long)) in
        let more : length (take rest (drop half both)) ≡ rest = length-take-le rest (drop half both) (omega (arith, length-drop half both, long)) in
        record {
          left = is_lower ∙ spelled_now _ _ _ (get_or left 0 0 - get_or left 0 0 % 65536 + half) c v.left left (take half both) e left_now lower_is (omega (arith, left_count, some));
          right = is_upper ∙ spelled_now _ _ _ (get_or right 0 0 - get_or right 0 0 % 65536 + rest) d v.right right (take rest (drop half both)) f right_now upper_is (omega (arith, right_count, more));
          separator = key_is;
          gains = gains;
        }
