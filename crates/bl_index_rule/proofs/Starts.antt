-- An index begins: the words of its pages show the opening index, and no pass has begun a process.
use Rattle.std.proofs.Common.{ℕ, zero, suc, ◌≡◌, ◌≢◌, ◌<◌, ◌≤◌, List, [], ◌∷◌, length, map, replicate, refl, sym, ap, ◌∙◌, subst, inl, inr, arith}
use mathlib.Core.Option.{some, some-injective, some-ne-none}
use lib.ListN.{get_elem?}
use Rattle.bl_model.specs.Map.{empty}
use Rattle.bl_page.specs.declared.page.Page.{Page}
use Rattle.bl_page.specs.declared.page.Page.TheVariants.{Leaf}
use Rattle.bl_page.specs.Words.{words_of}
use Rattle.bl_page.specs.Machine.{Name, State}
use Rattle.bl_page.specs.Machine as machine
use Rattle.bl_claims.specs.States.{HasMoments}
use Rattle.bl_tree_worlds.proofs.States.{moments_first}
use Rattle.bl_one_moment.specs.Moments.{HasFirmMoments}
use Rattle.bl_one_moment.proofs.Worlds.{firm_first, firm_alone}
use Rattle.bl_tree_worlds.specs.Worlds.{World, IsGood}
use Rattle.bl_tree_worlds.specs.Blank.{IsBlank}
use Rattle.bl_claims.specs.Opening.{Opening}
use Rattle.bl_tree_worlds.proofs.Starts.{opening_world, opening_good}
use Rattle.bl_proc_invariant.specs.Knowing.{Run, know}
use Rattle.bl_proc_invariant.proofs.Middles.{KeepsLogs}
use Rattle.bl_proc_bounds.proofs.Kept.{first_kept}
use Rattle.bl_store_rule.specs.Pages.{Stage, Idle}
use Rattle.bl_store.specs.Opening.{first_owner, first_pages}
use Rattle.bl_index_rule.specs.declared.known.PassState.{PassState}
use Rattle.bl_claims.specs.Seeing.{IsSeen, name}
use Rattle.bl_index_rule.specs.Simulation.{unborn, newcomer, Shows, owner_in, IsHand, Simulates}
use Rattle.bl_index_rule.proofs.Shown.{at_below}
use Rattle.bl_index_rule.proofs.Within.{none_within}
use Rattle.bl_index_rule.proofs.Sights.{firm_moment, world_moment, world_seen}
use Rattle.bl_index_rule.proofs.Bounds.{first_anchor, fresh_run}

-- an empty leaf
abbrev pub first_leaf : Page
first_leaf = Leaf (record { low = 0; high = 0; right = 0; rows = record { items = [] }; bounds = omega arith; link = omega arith; few = omega arith; order = tt; cover = tt })

abbrev contents_at : ℕ → Page
contents_at zero = first_anchor
contents_at (suc zero) = first_leaf
contents_at (suc (suc x)) = first_anchor

abbrev owner_of : ℕ → machine.Owner
owner_of zero = machine.Owner.Open
owner_of (suc zero) = machine.Owner.Open
owner_of (suc (suc x)) = machine.Released

abbrev opening_state : State Page
opening_state = record { contents = contents_at; owner = owner_of; phase = λ p. machine.Waiting; clock = 0 }

others_released : (x : ℕ) → x ≢ 0 → x ≢ 1 → owner_of x ≡ machine.Released
others_released zero a b = absurd (a refl)
others_released (suc zero) a b = absurd (b refl)
others_released (suc (suc x)) a b = refl

none_held : (x : ℕ) (p : Name) → owner_of x ≢ machine.Held p
none_held zero p e = (let z : machine.Owner.Open ≡ machine.Held p = e in cc)
none_held (suc zero) p e = (let z : machine.Owner.Open ≡ machine.Held p = e in cc)
none_held (suc (suc x)) p e = (let z : machine.Released ≡ machine.Held p = e in cc)

opening_is : Opening opening_state
opening_is = record {
  anchor = (_, refl, refl);
  leaf = (_, refl, refl, refl, refl, refl);
  anchor_open = refl;
  leaf_open = refl;
  others = others_released;
  waiting = λ p. refl;
}

pub blank_is : IsBlank (know (fresh_run unborn))
blank_is = record { stage = refl; said = refl; holds = refl; goes = refl; children = refl; passed = refl; sound = omega arith }

abbrev first_world : ℕ → World Run
first_world size = opening_world opening_state size (λ p. fresh_run unborn)

first_good : (size : ℕ) → 1 < size → IsGood know (first_world size)
first_good size wide = opening_good know opening_state size (λ p. fresh_run unborn) wide opening_is (λ p. blank_is)

first_logs : (size : ℕ) → KeepsLogs (first_world size)
first_logs size p since runs = absurd (let both : machine.Waiting ≡ machine.Running since = runs in cc)

first_moments : (size : ℕ) → 1 < size → HasMoments empty opening_state []
first_moments size wide = moments_first empty opening_state (world_moment (first_world size) [] (first_good size wide) (first_logs size) refl)

first_firm : (size : ℕ) → 1 < size → HasFirmMoments empty opening_state []
first_firm size wide = firm_alone empty opening_state (firm_moment (first_world size) [] (first_good size wide) (first_logs size) refl (firm_first know (first_world size) (first_good size wide) refl))

-- a pass that has done nothing has seen the opening index
pub newcomer_seen : IsSeen [] []
newcomer_seen = world_seen (first_world 4) [] (first_good 4 (omega arith)) opening_is refl (first_moments 4 (omega arith))

pub of_all : {A : Type 0} (n : ℕ) (a : A) (i : ℕ) (b : A) → get_elem? (replicate n a) i ≡ some b → a ≡ b
of_all zero a i b e = absurd (some-ne-none b (sym e))
of_all (suc n) a zero b e = some-injective a b e
of_all (suc n) a (suc i) b e = of_all n a i b e

pub of_map : {A B : Type 0} (f : A → B) (l : List A) (i : ℕ) (b : B) → get_elem? (map f l) i ≡ some b → (a : A) × (get_elem? l i ≡ some a) × (f a ≡ b)
of_map f [] i b e = absurd (some-ne-none b (sym e))
of_map f (x ∷ xs) zero b e = (x, refl, some-injective (f x) b e)
of_map f (x ∷ xs) (suc i) b e = of_map f xs i b e

-- the words of the pages of an opening index
pub record AreOpening (contents : List (List ℕ)) : Type 0 where
  pub many : 4 ≤ length contents
  pub anchor : get_elem? contents 0 ≡ some (words_of first_anchor)
  pub leaf : get_elem? contents 1 ≡ some (words_of first_leaf)
  pub others : (x : ℕ) → 2 ≤ x → x < length contents → get_elem? contents x ≡ some (replicate 32 0)

module _ (contents : List (List ℕ)) (o : AreOpening contents) where
  words_at : (x : ℕ) (words : List ℕ) → get_elem? contents x ≡ some words → Shows x words (contents_at x)
  words_at zero words e = some-injective words (words_of first_anchor) (sym e ∙ o.anchor)
  words_at (suc zero) words e = inl (some-injective words (words_of first_leaf) (sym e ∙ o.leaf))
  words_at (suc (suc x)) words e = inr (some-injective words (replicate 32 0) (sym e ∙ o.others (suc (suc x)) (omega arith) (at_below contents (suc (suc x)) words e)), tt)

  owner_at : (hands : List (Stage × PassState)) (x : ℕ) (words : List ℕ) → get_elem? contents x ≡ some words → owner_of x ≡ owner_in hands (first_owner words)
  owner_at hands zero words e = ap (λ (z : List ℕ). owner_in hands (first_owner z)) (some-injective (words_of first_anchor) words (sym o.anchor ∙ e))
  owner_at hands (suc zero) words e = ap (λ (z : List ℕ). owner_in hands (first_owner z)) (some-injective (words_of first_leaf) words (sym o.leaf ∙ e))
  owner_at hands (suc (suc x)) words e = ap (λ (z : List ℕ). owner_in hands (first_owner z)) (some-injective (replicate 32 0) words (sym (o.others (suc (suc x)) (omega arith) (at_below contents (suc (suc x)) words e)) ∙ e))

  hand_at : (n : ℕ) → IsHand (first_world (length contents)) n Idle newcomer
  hand_at n = record {
    named = λ begun. absurd (begun refl);
    stage = (refl, λ x. none_held x (name n 0));
    later = λ m l. (refl, blank_is);
    begins = ([], refl, tt);
    counted = tt;
    mine = refl;
  }

  pub starts : (passes : ℕ) → Simulates (first_pages contents passes newcomer)
  starts passes = record {
    world = first_world (length contents);
    good = let many = o.many in first_good (length contents) (omega arith);
    kept = first_kept (first_world (length contents)) refl (λ p. blank_is.stage);
    image = [];
    opening = opening_is;
    first = refl;
    moments = let many = o.many in first_moments (length contents) (omega arith);
    size = refl;
    clock = omega arith;
    pages = words_at;
    owners = λ x own e. (let is = of_map first_owner contents x own e in owner_at (replicate passes (Idle, newcomer)) x is.0 is.1 ∙ ap (owner_in (replicate passes (Idle, newcomer))) is.2);
    hands = λ n st d e. subst (λ (z : Stage × PassState). IsHand (first_world (length contents)) n z.0 z.1) (of_all passes (Idle, newcomer) n (st, d) e) (hand_at n);
    within = none_within (length (replicate passes (Idle, newcomer)));
    counts = λ n st d e begun. absurd (begun (ap (λ (z : Stage × PassState). z.1.number) (sym (of_all passes (Idle, newcomer) n (st, d) e))));
    firsts = λ n st d e. ap (λ (z : Stage × PassState). z.1.first) (sym (of_all passes (Idle, newcomer) n (st, d) e));
    busy = λ p since e. absurd (let both : machine.Waiting ≡ machine.Running since = e in cc);
    versions = λ x version e. sym (of_all (length contents) 0 x version e);
    firm = let many = o.many in first_firm (length contents) (omega arith);
  }
