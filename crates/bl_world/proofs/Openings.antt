-- The opening index is a world in which nothing has happened.
use Rattle.std.proofs.Common.{ℕ, ◌≡◌, ◌<◌, ◌≤◌, zero, suc, Some, None, List, [], ◌∷◌, length, get_or, slice_get, arith, ap, sym, ◌∙◌, refl, inl, inr}
use Rattle.std.proofs.lemmas.Bool.{cases_eq, cases_lt}
use Rattle.std.proofs.lemmas.Option.{get_or_from_slice_get}
use Rattle.bl_model.specs.Map.{empty}
use Rattle.bl_page.specs.declared.page.Page.{Page}
use Rattle.bl_page.specs.declared.page.Page.TheVariants.{Anchor, Leaf}
use Rattle.bl_page.specs.declared.page.Anchor.{Anchor as AnchorPage}
use Rattle.bl_page.specs.declared.page.Leaf.{Leaf as LeafPage}
use Rattle.bl_page.specs.Machine.{State}
use Rattle.bl_page.specs.Machine.Owner.{Released, Open, Retired}
use Rattle.bl_page.specs.Machine.Phase.{Waiting, Running}
use Rattle.bl_tree_worlds.proofs.States.{moments_first}
use Rattle.bl_claims.specs.Opening.{Opening}
use Rattle.bl_tree_worlds.specs.Blank.{IsBlank}
use Rattle.bl_tree_worlds.proofs.Starts.{opening_world, opening_good}
use Rattle.bl_page.specs.Tops.{IsAnchor}
use Rattle.bl_proc.specs.declared.kinds.Proc.{Proc}
use Rattle.bl_proc.specs.declared.kinds.Proc.TheVariants as proc
use Rattle.bl_proc.specs.declared.searching.FindStage.TheVariants as find
use Rattle.bl_proc_bounds.proofs.Kept.{first_kept}
use Rattle.bl_proc_invariant.specs.Knowing.{Run, know}
use Rattle.bl_world.specs.declared.turns.Act.{Act}
use Rattle.bl_world.specs.declared.turns.Event.{Event}
use Rattle.bl_world.specs.declared.owners.Owner.TheVariants as own
use Rattle.bl_world.specs.Retirements.{Stands}
use Rattle.bl_world.specs.Views.{View, owner_of}
use Rattle.bl_world.specs.WorldSteps.{IsEmptyLeaf, IsOpening}
use Rattle.bl_world.proofs.Keeping.{Has}
use Rattle.bl_world.proofs.Moments.{world_moment}

-- the fields of pages 0 and 1
names_one : (c : Page) → IsAnchor (1 ∷ []) c → (a : AnchorPage) × (c ≡ Anchor a) × (a.leftmost.items ≡ 1 ∷ [])
names_one (Anchor a) e = (a, refl, e)
names_one old e = absurd e

leaf_one : (c : Page) → IsEmptyLeaf c → (l : LeafPage) × (c ≡ Leaf l) × (l.low ≡ 0) × (l.high ≡ 0) × (l.right ≡ 0) × (l.rows.items ≡ [])
leaf_one (Leaf l) e = (l, refl, e.0, e.1, e.2, e.3)
leaf_one old e = absurd e

-- what a list holds at a place, if it is that long
at : {A : Type 0} (xs : List A) (d : A) (x : ℕ) (a : A) → slice_get xs x ≡ Some a → get_or xs x d ≡ a
at xs d x a e = get_or_from_slice_get xs x a d e

past : {A : Type 0} (xs : List A) (d : A) (x : ℕ) → length xs ≤ x → get_or xs x d ≡ d
past [] d x le = refl
past (y ∷ xs) d zero le = absurd (omega arith)
past (y ∷ xs) d (suc x) le = past xs d x (omega (arith, le))

-- nobody was started
abbrev nobody : Page → Run
nobody c = record { state = proc.Find (record { key = 0; stage = find.New }); got = λ x. c; child = 0; time = 0 }

nobody_blank : (c : Page) → IsBlank (know (nobody c))
nobody_blank c = record { stage = refl; said = refl; holds = refl; goes = refl; children = refl; passed = refl; sound = omega arith }

-- where there is no event, none stands
no_event : (events : List Event) (i number : ℕ) (act : Act) → events ≡ [] → Stands events i number act → ⊥
no_event events i number act e s = (let f : slice_get {X = Event} [] i ≡ Some (record { process = number; act = act }) = rw e at s in cc)

pub opens : (size : ℕ) (v : View) → 1 < size → IsOpening size v → Has v
opens size v wide o =
    let leaf = o.leaf.0 in
    let now : State Page = record { contents = λ x. get_or v.pages x leaf; owner = λ x. owner_of (get_or v.owners x own.Released); phase = λ p. Waiting; clock = 0 } in
    let first : get_or v.pages 0 leaf ≡ o.anchor.0 = at v.pages leaf 0 o.anchor.0 o.anchor.1 in
    let second : get_or v.pages 1 leaf ≡ leaf = at v.pages leaf 1 leaf o.leaf.1 in
    let names = names_one o.anchor.0 o.anchor.2 in
    let fields = leaf_one o.leaf.0 o.leaf.2 in
    let opening : Opening now = record {
      anchor = (names.0, first ∙ names.1, names.2);
      leaf = (fields.0, second ∙ fields.1, fields.2, fields.3, fields.4, fields.5);
      anchor_open = ap owner_of (at v.owners own.Released 0 own.Open o.anchor_open);
      leaf_open = ap owner_of (at v.owners own.Released 1 own.Open o.leaf_open);
      others = λ x a b. elim (cases_lt x size) [
        | inl l ↦ ap owner_of (at v.owners own.Released x own.Released (o.others x (omega (arith, a, b)) l))
        | inr l ↦ ap owner_of (past v.owners own.Released x (let e = o.owners in omega (arith, l, e)))
      ];
      waiting = λ p. refl;
    } in
    let good = opening_good know now size (λ p. nobody leaf) wide opening (λ p. nobody_blank leaf) in
    record {
      world = opening_world now size (λ p. nobody leaf);
      good = good;
      logs = λ p. refl;
      kept = first_kept (opening_world now size (λ p. nobody leaf)) refl (λ p. (nobody_blank leaf).stage);
      opening = opening;
      first = refl;
      size = sym o.count;
      paired = o.owners ∙ sym o.count;
      contents = λ x c is. at v.pages leaf x c is;
      owner = λ x a is. ap owner_of (at v.owners own.Released x a is);
      runs = λ n p is. absurd (let e : slice_get {X = Proc} [] n ≡ Some p = rw o.processes at is in cc);
      others = λ q far. (refl, nobody_blank leaf, refl);
      shown = o.events;
      numbered = λ i m is. absurd (let e : None ≡ Some m = is in cc);
      times = record {
        clock = sym (ap length o.events);
        retired = λ x k r. absurd (elim (cases_eq x 0) [
          | inl i ↦ (let e : Open ≡ Retired k = sym opening.anchor_open ∙ (ap now.owner (sym i) ∙ r) in cc)
          | inr i ↦ elim (cases_eq x 1) [
            | inl j ↦ (let e : Open ≡ Retired k = sym opening.leaf_open ∙ (ap now.owner (sym j) ∙ r) in cc)
            | inr j ↦ (let e : Released ≡ Retired k = sym (opening.others x i j) ∙ r in cc)
          ]
        ]);
        only = λ x k r. absurd (no_event v.events k r.by _ o.events r.retires);
        began = λ number since r. absurd (let e : Waiting ≡ Running since = r in cc);
        going = λ number ne j s. no_event v.events j number _ o.events s;
      };
      inside = λ n p is. absurd (let e : slice_get {X = Proc} [] n ≡ Some (proc.Reclaim p) = rw o.processes at is in cc);
      reclaiming = λ n p is. absurd (let e : slice_get {X = Proc} [] n ≡ Some (proc.Reclaim p) = rw o.processes at is in cc);
      releases = λ i number x s. absurd (no_event v.events i number _ o.events s);
      moments = moments_first empty now (world_moment (opening_world now size (λ p. nobody leaf)) good (λ p. refl) refl);
    }
