-- Each turn of a post that puts nothing leaves fewer turns, but for a missed latch.
use Rattle.std.proofs.Common.{ℕ, ◌≡◌, ◌≢◌, ◌+◌, ◌-◌, ◌*◌, ◌<◌, ◌≤◌, None, arith, ap, sym, ◌∙◌, refl, inl, inr, subst}
use Rattle.bl_page.specs.declared.page.Page.{Page}
use Rattle.bl_page.specs.declared.page.Page.TheVariants.{Anchor, Leaf, Inner, Dead}
use Rattle.bl_page.specs.declared.page.Inner.{Inner as InnerPage}
use Rattle.bl_page.specs.Machine.{Name}
use Rattle.bl_page.specs.Nodes.{node_of, roots_of, IsChildOf}
use Rattle.bl_tree_worlds.specs.Worlds.{World, nodes, IsGood}
use Rattle.bl_proc_steps.specs.declared.acts.Seen.{Seen}
use Rattle.bl_proc_steps.specs.declared.acts.Seen.TheVariants as seen
use Rattle.bl_proc_steps.specs.declared.acts.Action.TheVariants as act
use Rattle.bl_proc_steps.specs.declared.approach.Approach.{Approach}
use Rattle.bl_proc_steps.specs.declared.approach.Approach.TheVariants as way
use Rattle.bl_proc_steps.specs.declared.approach.Approached.TheVariants as approached
use Rattle.bl_proc_steps.specs.declared.approach.Came.{Came}
use Rattle.bl_proc_steps.specs.declared.approach.Came.TheVariants as come
use Rattle.bl_proc_steps.specs.declared.descent.Descent.TheVariants.{AtAnchor, At}
use Rattle.bl_proc_steps.specs.declared.edit.Edited.TheVariants as changed
use Rattle.bl_proc_steps.specs.declared.growth.Growth.{Growth}
use Rattle.bl_proc_steps.specs.declared.growth.Growth.TheVariants as growth
use Rattle.bl_proc_steps.specs.declared.growth.Grew.TheVariants as grew
use Rattle.bl_proc_steps.specs.Approaches.{approach_next, Approaches, CountsLevels, Comes}
use Rattle.bl_proc_steps.specs.Growths.{growth_next, Grows}
use Rattle.bl_proc_routes.specs.declared.routes.Step.{Step}
use Rattle.bl_proc_routes.specs.declared.routes.Step.TheVariants.{Again, Right, Down, Here}
use Rattle.bl_proc_routes.specs.Routes.{Leads}
use Rattle.bl_proc_writes.specs.declared.post.PostStage.{PostStage}
use Rattle.bl_proc_writes.specs.declared.post.PostStage.TheVariants as post
use Rattle.bl_proc_writes.specs.declared.post.PostReply.TheVariants as listed
use Rattle.bl_proc_writes.specs.declared.walking.Walk.{Walk}
use Rattle.bl_proc_writes.specs.Posts.{post_next_in, PostLacks, PostArrives, PostWalks, PostComes, PostGoes, IsLost}
use Rattle.bl_proc_deterministic.proofs.WayCases.{ApproachCase, approach_case, edit_case, GrowthCase, growth_case}
use Rattle.bl_proc_deterministic.proofs.WayCases.GrowthCase.{OpenedGrown as GrowthOpenedGrown, OpenedRefused as GrowthOpenedRefused}
use Rattle.bl_proc_deterministic.proofs.WayCases.ApproachCase.{Arrived as ApproachArrived}
use Rattle.bl_proc_invariant.specs.Tables.{Carried, know_approach}
use Rattle.bl_proc_invariant.specs.Turns.{IsObserved}
use Rattle.bl_proc_invariant.specs.Knowing.{Run, know_post, know}
use Rattle.bl_proc_bounds.proofs.Ahead.{ahead_on}
use Rattle.bl_proc_progress.specs.Holds.{edit_hold}
use Rattle.bl_proc_progress.specs.Ways.{IsLeft}
use Rattle.bl_proc_progress.proofs.Nearing.{edit_near, edit_most, edit_some}
use Rattle.bl_proc_progress.proofs.Shortening.{leads_again}
use Rattle.bl_proc_ends.specs.Left.{IsOnWay, growth_left, post_left}
use Rattle.bl_proc_ends.proofs.Plain.{Fewer, fewer, way_off, way_on, sure_of}

-- page 0 sends whoever takes it for a page back to itself
anchor_again : (c : Page) (key : ℕ) → 0 < (roots_of c).levels → Leads c key 0 Again
anchor_again (Anchor a) key some = (λ d. absurd d, λ t. absurd t)
anchor_again (Leaf l) key some = absurd (omega (arith, some))
anchor_again (Inner i) key some = absurd (omega (arith, some))
anchor_again (Dead d) key some = absurd (omega (arith, some))

module _ (w : World Run) (g : IsGood know w) (p : Name) (carried : Carried) (level key : ℕ) (least : 0 < level) (most : level ≤ 12) where
  growth_fewer : (a : Growth) (what : Seen) (b : Growth) (turns : ℕ) → Grows level a what (grew.On b) → IsObserved w.now w.size (growth_next a) what → ((x : ℕ) (c : Page) → what ≡ seen.Done → growth_next a ≢ act.Put x c) → growth_left w.now.contents level key a turns → Fewer (growth_left w.now.contents level key b) what turns
  growth_fewer growth.Latching seen.Done b turns t observed n l =
      subst (λ v. Fewer (growth_left w.now.contents level key v) seen.Done turns) (sym t) (elim l [
        | inl r ↦ (let e = r.1 in fewer _ seen.Done turns 7 (inl (r.0, refl)) (omega (arith, e)))
        | inr r ↦ (let s = r.1 in let count = s.count in fewer _ seen.Done turns (4 * s.gets + 27) (inr (r.0, record { gets = s.gets; ahead = s.ahead; count = omega arith })) (omega (arith, count)))
      ])
  growth_fewer growth.Latching seen.Missed b turns t observed n l = subst (λ v. Fewer (growth_left w.now.contents level key v) seen.Missed turns) (sym t) (record { then = turns; left = l; less = inr (refl, omega arith) })
  growth_fewer growth.Latched (seen.Words c) (growth.Taking rise) turns t observed n l =
      fewer _ (seen.Words c) turns 6 refl (elim l [ inl r ↦ (let e = r.1 in omega (arith, e)) | inr r ↦ (let count = r.1.count in omega (arith, count)) ])
  growth_fewer growth.Latched (seen.Words c) growth.OpeningGrown turns t observed n l = elim l [
    | inl r ↦ absurd (t r.0.room (ap (λ v. (roots_of v).levels) observed ∙ r.0.levels))
    | inr r ↦ (let s = r.1 in let count = s.count in fewer _ (seen.Words c) turns (4 * s.gets + 25) (record { gets = s.gets; ahead = s.ahead; count = omega arith }) (omega (arith, count)))
  ]
  growth_fewer (growth.Taking rise) (seen.Took y) (growth.PuttingTop r) turns t observed n l = fewer _ (seen.Took y) turns 5 refl (omega (arith, l))
  growth_fewer (growth.Taking rise) seen.Refused b turns t observed n l = subst (λ v. Fewer (growth_left w.now.contents level key v) seen.Refused turns) (sym t) (fewer _ seen.Refused turns 2 refl (omega (arith, l)))
  growth_fewer (growth.PuttingTop r) seen.Done b turns t observed n l = absurd (n r.new r.top refl refl)
  growth_fewer (growth.PuttingAnchor r) seen.Done b turns t observed n l = absurd (n 0 r.anchor refl refl)
  growth_fewer (growth.OpeningTop x) seen.Done b turns t observed n l = subst (λ v. Fewer (growth_left w.now.contents level key v) seen.Done turns) (sym t) (let count = l.count in fewer _ seen.Done turns (4 * l.gets + 25) (record { gets = l.gets; ahead = l.ahead; count = omega arith }) (omega (arith, count)))
  growth_fewer growth.OpeningGrown seen.Done b turns t observed n l = absurd t
  growth_fewer growth.OpeningRefused seen.Done b turns t observed n l = absurd t
  growth_fewer a what b turns t observed n l = absurd t

  -- a growth that is over
  grown_fewer : {what : Seen} {a : Growth} (turns : ℕ) → GrowthCase level a what grew.Grown → growth_left w.now.contents level key a turns → Fewer (λ n. IsOnWay w.now.contents key way.Start 20 n) what turns
  grown_fewer turns GrowthOpenedGrown l = (let count = l.count in fewer _ seen.Done turns (4 * l.gets + 20) (record { way = 4 * l.gets; left = record { gets = l.gets; ahead = l.ahead; count = omega arith }; count = refl }) (omega (arith, count)))

  refused_fewer : {what : Seen} {a : Growth} (turns : ℕ) → GrowthCase level a what grew.Refused → growth_left w.now.contents level key a turns → 1 < turns
  refused_fewer turns GrowthOpenedRefused l = omega (arith, l)

  -- the anchor was got, and has no such level
  counted : (a : Approach) (what : Seen) (n : ℕ) → IsObserved w.now w.size (approach_next a) what → CountsLevels a what n → (roots_of (w.now.contents 0)).levels ≡ n
  counted way.Start (seen.Words c) n observed t = ap (λ v. (roots_of v).levels) (sym observed) ∙ sym t
  counted a what n observed t = absurd t

  lacks_fewer : (n : ℕ) (b : PostStage) (what : Seen) (turns : ℕ) → (roots_of (w.now.contents 0)).levels ≡ n → PostLacks level n b → 8 < turns → Fewer (post_left w.size w.now.contents level key b) what turns
  lacks_fewer n (post.Ending listed.Stale) what turns is t many = fewer _ what turns 1 refl (omega (arith, many))
  lacks_fewer n (post.Ending listed.TooTall) what turns is t many = fewer _ what turns 1 refl (omega (arith, many))
  lacks_fewer n (post.Growing growth.Latching) what turns is t many = fewer _ what turns 8 (inl (record { levels = is ∙ t.0; room = (let e = t.1 in omega (arith, e, most)) }, refl)) many
  lacks_fewer n b what turns is t many = absurd t

  -- The parent was got under its latch, and the walk begins at the key's child.
  walks_off : {a : Approach} {what : Seen} {x : ℕ} {d : Page} (v : Walk) (turns : ℕ) → ApproachCase level key a what (approached.Here x d) → IsChildOf (node_of d).look key v.child → IsObserved w.now w.size (approach_next a) what → IsOnWay w.now.contents key a 20 turns → Fewer (λ n. IsLeft w.now.contents key (At v.child) 20 0 n) what turns
  walks_off v turns (ApproachArrived x c y d is) of observed l =
      let here = is.2 in
      let child : IsChildOf (node_of c).look key v.child = subst (λ u. IsChildOf (node_of u).look key v.child) is.1 of in
      let level_is = here.2 in
      let down : Leads c key 0 (Down v.child) = (here.0, here.1, omega (arith, level_is, least), child) in
      let s = l.left in
      let r = ahead_on w.now.contents key (At x) (At v.child) s.gets (inr (subst (λ u. Leads u key 0 (Down v.child)) observed down)) s.ahead in
      let one = r.less in
      let count = s.count in
      let all = l.count in
      fewer (λ n. IsLeft w.now.contents key (At v.child) 20 0 n) (seen.Words c) turns (4 * r.left + 20) (record { gets = r.left; ahead = r.ahead; count = omega arith }) (omega (arith, one, count, all))

  arrives_fewer : (a : Approach) (x : ℕ) (parent : InnerPage) (b : PostStage) (what : Seen) (turns : ℕ) → Approaches level key a what (approached.Here x (Inner parent)) → PostArrives key x parent b → IsObserved w.now w.size (approach_next a) what → IsOnWay w.now.contents key a 20 turns → Fewer (post_left w.size w.now.contents level key b) what turns
  arrives_fewer a x parent (post.Staying y listed.Already) what turns h t observed l = fewer _ what turns 2 (tt, refl) (let count = l.count in omega (arith, count))
  arrives_fewer a x parent (post.Walking v) what turns h t observed l = walks_off v turns (approach_case level key a what (approached.Here x (Inner parent)) h) t.3 observed l
  arrives_fewer a x parent b what turns h t observed l = absurd t

  coming_fewer : (a : Approach) (b : PostStage) (what : Seen) (turns : ℕ) (m : Came) → Comes level key a what m → PostComes level key m b → know (w.proc p) ≡ know_approach carried level key a → IsObserved w.now w.size (approach_next a) what → IsOnWay w.now.contents key a 20 turns → Fewer (post_left w.size w.now.contents level key b) what turns
  coming_fewer a b what turns (come.NoLevel n) h t is observed l = lacks_fewer n b what turns (counted a what n observed h.1) t (let count = l.count in omega (arith, count))
  coming_fewer a b what turns (come.On c) h t is observed l = subst (λ v. Fewer (post_left w.size w.now.contents level key v) what turns) (sym t) (way_on w g p carried level key 20 a c what turns is h.0 observed h.1 l)
  coming_fewer a b what turns (come.ToParent x parent) h t is observed l = arrives_fewer a x parent b what turns h t observed l

  -- a walk that is lost begins again, and is shorter for that
  lost_fewer : (u : Walk) (c : Page) (o : Step) (turns : ℕ) → c ≡ w.now.contents u.child → (node_of c).shape.level ≡ level - 1 → Leads c key (level - 1) o → IsLost o → IsLeft w.now.contents key (At u.child) 20 0 turns → Fewer (λ n. IsOnWay w.now.contents key (way.Leaving u.at None) 20 n) (seen.Words c) turns
  lost_fewer u c Again turns observed same h t l =
      let r = ahead_on w.now.contents key (At u.child) AtAnchor l.gets (subst (λ v. Leads v key 0 Again) observed (leads_again c key (level - 1) (omega (arith, same)) h)) l.ahead in
      let one = r.less in
      let count = l.count in
      fewer (λ n. IsOnWay w.now.contents key (way.Leaving u.at None) 20 n) (seen.Words c) turns (4 * r.left + 21) (record { way = 4 * r.left + 1; left = record { gets = r.left; ahead = r.ahead; count = omega arith }; count = omega arith }) (omega (arith, one, count))
  lost_fewer u c (Right y) turns observed same h t l =
      let to : Leads (w.now.contents u.child) key 0 (Right 0) = subst (λ v. Leads v key 0 (Right 0)) observed (subst (λ v. Leads c key 0 (Right v)) t h) in
      let r = ahead_on w.now.contents key (At u.child) (At 0) l.gets (inl to) l.ahead in
      let s = ahead_on w.now.contents key (At 0) AtAnchor r.left (anchor_again (w.now.contents 0) key g.tree.some_level) r.ahead in
      let one = r.less in
      let two = s.less in
      let count = l.count in
      fewer (λ n. IsOnWay w.now.contents key (way.Leaving u.at None) 20 n) (seen.Words c) turns (4 * s.left + 21) (record { way = 4 * s.left + 1; left = record { gets = s.left; ahead = s.ahead; count = omega arith }; count = omega arith }) (omega (arith, one, two, count))
  lost_fewer u c (Down y) turns observed same h t l = absurd (let above = h.2 in omega (arith, above, same))
  lost_fewer u c Here turns observed same h t l = absurd t

  walk_fewer : (u : Walk) (c : Page) (b : PostStage) (turns : ℕ) → u.key ≡ key → PostWalks level u c b → c ≡ w.now.contents u.child → (node_of c).shape.level ≡ level - 1 → IsLeft w.now.contents key (At u.child) 20 0 turns → Fewer (post_left w.size w.now.contents level key b) (seen.Words c) turns
  walk_fewer u c (post.Walking v) turns of t observed same l =
      let to : Leads (w.now.contents u.child) key 0 (Right v.child) = subst (λ z. Leads z key 0 (Right v.child)) observed (subst (λ z. Leads c z 0 (Right v.child)) of t.3) in
      let r = ahead_on w.now.contents key (At u.child) (At v.child) l.gets (inl to) l.ahead in
      let one = r.less in
      let count = l.count in
      fewer (λ n. IsLeft w.now.contents key (At v.child) 20 0 n) (seen.Words c) turns (4 * r.left + 20) (record { gets = r.left; ahead = r.ahead; count = omega arith }) (omega (arith, one, count))
  walk_fewer u c (post.Editing e) turns of t observed same l = fewer _ (seen.Words c) turns (edit_hold e + 1) refl (let few = edit_most e in let count = l.count in omega (arith, few, count))
  walk_fewer u c (post.Staying x listed.Stale) turns of t observed same l = fewer _ (seen.Words c) turns 2 (tt, refl) (let count = l.count in omega (arith, count))
  walk_fewer u c (post.Coming a) turns of t observed same l = subst (λ v. Fewer (λ n. IsOnWay w.now.contents key v 20 n) (seen.Words c) turns) (sym t.0) (lost_fewer u c t.1.0 turns observed same (subst (λ z. Leads c z (level - 1) t.1.0) of t.1.1) t.1.2 l)
  walk_fewer u c b turns of t observed same l = absurd t

  pub post_fewer : (got : ℕ → Page) (child : ℕ) (a : PostStage) (what : Seen) (b : PostStage) (turns : ℕ) → PostGoes level key a what b → know (w.proc p) ≡ know_post carried level key got child a → IsObserved w.now w.size (post_next_in a) what → ((x : ℕ) (c : Page) → what ≡ seen.Done → post_next_in a ≢ act.Put x c) → post_left w.size w.now.contents level key a turns → Fewer (post_left w.size w.now.contents level key b) what turns
  post_fewer got child post.New seen.Done (post.Coming a) turns t is observed n l = subst (λ v. Fewer (λ m. IsOnWay w.now.contents key v 20 m) seen.Done turns) (sym t) (way_off w g p key 20 seen.Done turns (sure_of w g p (know_post carried level key got child post.New) is).sound (omega (arith, l)))
  post_fewer got child (post.Coming a) what b turns t is observed n l = coming_fewer a b what turns t.0 t.1 t.2 is observed l
  post_fewer got child (post.Growing a) what (post.Growing b) turns t is observed n l = growth_fewer a what b turns t observed n l
  post_fewer got child (post.Growing a) what (post.Coming b) turns t is observed n l = subst (λ v. Fewer (λ m. IsOnWay w.now.contents key v 20 m) what turns) (sym t.1) (grown_fewer turns (growth_case level a what grew.Grown t.0) l)
  post_fewer got child (post.Growing a) what (post.Ending r) turns t is observed n l = fewer _ what turns 1 refl (refused_fewer turns (growth_case level a what grew.Refused t.0) l)
  post_fewer got child (post.Walking u) (seen.Words c) b turns t is observed n l =
      let s = sure_of w g p (know_post carried level key got child (post.Walking u)) is in
      let few = s.goes.0.most in
      let some = s.goes.0.least in
      let same : (node_of c).shape.level ≡ (nodes w.now u.child).shape.level = ap (λ v. (node_of v).shape.level) observed in
      walk_fewer u c b turns s.sound.2 t observed (omega (arith, few, some, same)) l
  post_fewer got child (post.Editing c) what (post.Editing d) turns t is observed n l = fewer _ what turns (edit_hold d + 1) refl (let near = edit_near (edit_case c what (changed.On d) t) in omega (arith, near, l))
  post_fewer got child (post.Editing c) what (post.Ending r) turns t is observed n l = fewer _ what turns 1 refl (let some = edit_some c in omega (arith, some, l))
  post_fewer got child (post.Staying x r) seen.Done (post.Ending last) turns t is observed n l = fewer _ seen.Done turns 1 refl (let two = l.1 in omega (arith, two))
  post_fewer got child (post.Ending r) seen.Done (post.Over last) turns t is observed n l = fewer _ seen.Done turns 0 refl (omega (arith, l))
  post_fewer got child a what b turns t is observed n l = absurd t
