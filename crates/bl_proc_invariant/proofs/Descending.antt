-- Every get of a descent keeps a world good.
use Rattle.std.proofs.Common.{ℕ, ◌≡◌, ◌≢◌, ◌-◌, Option, Some, arith, refl, inl, inr}
use Rattle.bl_page.specs.declared.page.Page.{Page}
use Rattle.bl_page.specs.Machine.{Name, Owner, State}
use Rattle.bl_page.specs.Machine.Act.{Get}
use Rattle.bl_page.specs.Nodes.{roots_of}
use Rattle.bl_claims.specs.Trails.{Mark, Said}
use Rattle.bl_claims.specs.Walks.{Each}
use Rattle.bl_tree_worlds.specs.Worlds.{Know, World, nodes, MapsTo, MayGet, IsGoes, IsSure, IsGood}
use Rattle.bl_tree_worlds.proofs.Descents.{goes_leftmost, goes_down, not_released, anchor_not_released}
use Rattle.bl_proc_routes.specs.declared.routes.Step.TheVariants as onward
use Rattle.bl_proc_steps.specs.declared.descent.Descent.{Descent}
use Rattle.bl_proc_steps.specs.declared.descent.Descent.TheVariants.{AtAnchor, At}
use Rattle.bl_proc_steps.specs.declared.descent.Descended.TheVariants.{On, Here}
use Rattle.bl_proc_routes.specs.Routes.{Leads}
use Rattle.bl_proc_steps.specs.Descents.{descent_page, Descends}
use Rattle.bl_proc_invariant.specs.Turns.{Does, Turned}
use Rattle.bl_proc_invariant.specs.Tables.{alone, goes_to, descent_goes, know_descent}
use Rattle.bl_proc_invariant.specs.Knowing.{ending}
use Rattle.bl_proc_invariant.proofs.Acts.{watched}
use Rattle.bl_proc_invariant.proofs.Approaching.{got_goes, to_right, wider}
use Rattle.bl_proc_invariant.proofs.Editing.{says}

module _ {P : Type 0} (know : P → Know) (w : World P) (g : IsGood know w) (p : Name) where
  -- the page that it is to get is there
  pub descent_there : (key : ℕ) (d : Descent) → IsSure w p (know_descent key d) → w.now.owner (descent_page d) ≢ Owner.Released
  descent_there key AtAnchor is = anchor_not_released know w g
  descent_there key (At x) is = not_released know w g p x is.goes.0.may

  -- and where it may go from there
  goes_on : (key : ℕ) (d e : Descent) (c : Page) → IsSure w p (know_descent key d) → Descends key d c (On e) → c ≡ w.now.contents (descent_page d) → Each (IsGoes w p) (descent_goes e)
  goes_on key AtAnchor e c is t observed =
      let few = g.tree.few_levels in
      let some = g.tree.some_level in
      let top = (roots_of (w.now.contents 0)).levels - 1 in
      let x = (roots_of (w.now.contents 0)).leftmost top in
      let to : e ≡ At x = rw observed at t in
      let goes : IsGoes w p (goes_to x 0 12) = wider know w g p _ top top 0 12 (omega arith) (omega arith) (goes_leftmost know w g p is.stage.0 top is.stage.1 (omega arith)) in
      rw to (goes, tt)
  goes_on key (At x) AtAnchor c is t observed = tt
  goes_on key (At x) (At y) c is t observed =
      let may = is.goes.0.may in
      let most = is.goes.0.most in
      let goes : IsGoes w p (goes_to y 0 12) = elim t [
        | inl r ↦
            let l : Leads (w.now.contents x) key 0 (onward.Right y) = rw observed at r in
            rw l.0 (wider know w g p _ _ _ 0 12 (omega arith) most (to_right know w g p x key may l.1 is.sound))
        | inr d ↦
            let l : Leads (w.now.contents x) key 0 (onward.Down y) = rw observed at d in
            let above = l.2 in
            let level = (nodes w.now x).shape.level - 1 in
            wider know w g p _ level level 0 12 (omega arith) (omega arith) (goes_down know w g p x level key y may l.0 (omega arith) l.3)
      ] in
      (goes, tt)

  -- its leaf, by what it got
  leaf_got : (key : ℕ) (d : Descent) (c : Page) → IsSure w p (know_descent key d) → Descends key d c Here → c ≡ w.now.contents (descent_page d) → MayGet w p (descent_page d) × Leads (w.now.contents (descent_page d)) key 0 onward.Here
  leaf_got key AtAnchor c is t observed = absurd t
  leaf_got key (At x) c is t observed = (is.goes.0.may, rw observed at t)

  module _ (b : P) (key : ℕ) (d : Descent) (c : Page) (s : State Page) (before : know (w.proc p) ≡ know_descent key d) (observed : c ≡ w.now.contents (descent_page d)) (does : Does w.now p (Get (descent_page d)) s) where
    pub descent_turn : (e : Descent) → know b ≡ know_descent key e → Descends key d c (On e) → Turned know w p (Get (descent_page d)) s b
    descent_turn e then t =
        let is : IsSure w p (know_descent key d) = rw before at (g.sure p) in
        got_goes know w g p b alone 0 key _ (descent_page d) s (descent_goes e) before refl refl then is.stage is.said (descent_there key d is) does is.sound (goes_on key d e c is t observed)

    -- at the get of its leaf it says what is true of the map
    pub leaf_turn : (said : Option Said) → know b ≡ ending said → Descends key d c Here → (MayGet w p (descent_page d) → Leads (w.now.contents (descent_page d)) key 0 onward.Here → MapsTo (w.map 0) (w.map 0) said) → Turned know w p (Get (descent_page d)) s b
    leaf_turn said then t maps =
        let is : IsSure w p (know_descent key d) = rw before at (g.sure p) in
        let x = descent_page d in
        let leaf = leaf_got key d c is t observed in
        let m : Mark = record { event = record { process = p; act = Get x }; saw = Some (w.now.contents x); said = said } in
        watched know w g p b _ _ before then (Get x) (Some (w.now.contents x)) said s tt (is.stage, descent_there key d is) does refl refl (λ y h. h) (λ it e. (is.stage, is.said))
        (maps leaf.0 leaf.1)
        (record { stage = is.stage; said = says w m is.said; holds = tt; goes = tt; children = tt; passed = tt; sound = tt })
