-- Each turn of a writer on its way leaves fewer turns, but for a missed latch.
use Rattle.std.proofs.Common.{ℕ, suc, ◌≡◌, ◌⊎◌, ◌+◌, ◌-◌, ◌*◌, ◌<◌, ◌≤◌, Option, None, Some, arith, ap, sym, ◌∙◌, refl, inl, inr, subst}
use Rattle.bl_page.specs.declared.page.Page.{Page}
use Rattle.bl_page.specs.Machine.{Name}
use Rattle.bl_page.specs.Nodes.{unbounded, node_of, roots_of}
use Rattle.bl_tree_worlds.specs.Worlds.{Know, World, nodes, IsGoes, IsSure, IsGood}
use Rattle.bl_proc_steps.specs.declared.acts.Seen.{Seen}
use Rattle.bl_proc_steps.specs.declared.acts.Seen.TheVariants as seen
use Rattle.bl_proc_steps.specs.declared.approach.Approach.{Approach}
use Rattle.bl_proc_steps.specs.declared.approach.Approach.TheVariants as way
use Rattle.bl_proc_steps.specs.declared.approach.Approached.TheVariants as came
use Rattle.bl_proc_steps.specs.declared.descent.Descent.{Descent}
use Rattle.bl_proc_steps.specs.declared.descent.Descent.TheVariants.{AtAnchor, At}
use Rattle.bl_proc_steps.specs.declared.descent.Descended.TheVariants.{On}
use Rattle.bl_proc_steps.specs.Approaches.{approach_next, HasLevel, Enters, Turns, Quits, Approaches}
use Rattle.bl_proc_steps.specs.Descents.{descent_page, Descends}
use Rattle.bl_proc_routes.specs.declared.routes.Step.{Step}
use Rattle.bl_proc_routes.specs.declared.routes.Step.TheVariants.{Again, Right, Down, Here}
use Rattle.bl_proc_routes.specs.Routes.{Leads}
use Rattle.bl_page.specs.Tops.{top_of}
use Rattle.bl_proc_deterministic.proofs.WayCases.{ApproachCase, approach_case}
use Rattle.bl_proc_deterministic.proofs.WayCases.ApproachCase.{Entered as ApproachEntered, LatchedPage as ApproachLatchedPage, MissedPage as ApproachMissedPage, OpenedFor as ApproachOpenedFor, OpenedLost as ApproachOpenedLost, Quitted as ApproachQuitted, Turned as ApproachTurned}
use Rattle.bl_proc_invariant.specs.Tables.{Carried, goes_to, know_approach}
use Rattle.bl_proc_invariant.specs.Turns.{IsObserved}
use Rattle.bl_proc_invariant.specs.Knowing.{Run, know}
use Rattle.bl_proc_bounds.specs.Paces.{IsAhead}
use Rattle.bl_proc_bounds.proofs.Ahead.{ahead_on, ahead_some}
use Rattle.bl_proc_bounds.proofs.Reach.{Near, descent_near}
use Rattle.bl_proc_progress.specs.Ways.{IsLeft, IsSaved, WayLeft}

-- what is left then: fewer turns, or one more after a missed latch
pub record Shorter (contents : ℕ → Page) (key : ℕ) (b : Approach) (what : Seen) (turns : ℕ) : Type 0 where
  pub then : ℕ
  pub left : WayLeft contents key b then
  pub less : (then < turns) ⊎ ((what ≡ seen.Missed) × (then ≤ turns + 1))

-- where a writer's page leads a search goes too, if the page is not below the level
leads_right : (c : Page) (key level y : ℕ) → Leads c key level (Right y) → Leads c key 0 (Right y)
leads_right c key level y h = h

pub leads_down : (c : Page) (key level y : ℕ) → Leads c key level (Down y) → Leads c key 0 (Down y)
leads_down c key level y h = (h.0, h.1, omega (arith, h.2), h.3)

pub leads_again : (c : Page) (key level : ℕ) → level ≤ (node_of c).shape.level → Leads c key level Again → Leads c key 0 Again
leads_again c key level least h = (h.0, λ t. elim (h.1 t) [ inl below ↦ inl below | inr low ↦ absurd (omega (arith, low.1, least)) ])

module _ (contents : ℕ → Page) (key : ℕ) where
  -- on from there: one get less
  on : (d e : Descent) (gets : ℕ) → Descends key d (contents (descent_page d)) (On e) → IsAhead contents key d gets → (left : ℕ) × IsAhead contents key e left × (gets ≡ suc left)
  on d e gets h ahead = (let r = ahead_on contents key d e gets h ahead in (r.left, r.ahead, r.less))

  -- from the anchor or a page that is got without a latch
  goes_on : (b : Approach) (what : Seen) (d e : Descent) (more less saved turns : ℕ) → less ≤ 1 → saved ≤ 2 → Descends key d (contents (descent_page d)) (On e) → IsLeft contents key d more saved turns → ((n : ℕ) → IsLeft contents key e less 0 n → WayLeft contents key b n) → Shorter contents key b what turns
  goes_on b what d e more less saved turns few little h l is =
      let r = on d e l.gets h l.ahead in
      let count = l.count in
      record { then = 4 * r.0 + less; left = is (4 * r.0 + less) (record { gets = r.0; ahead = r.1; count = omega arith }); less = inl (omega (arith, count, r.2, few, little)) }

  -- from a page that is held: it is opened first
  quits : (b : Approach) (what : Seen) (x : ℕ) (e : Descent) (turns : ℕ) → Descends key (At x) (contents x) (On e) → IsLeft contents key (At x) 0 1 turns → ((n : ℕ) → IsLeft contents key e 1 0 n → WayLeft contents key b n) → Shorter contents key b what turns
  quits b what x e turns h l is =
      let r = on (At x) e l.gets h l.ahead in
      let count = l.count in
      record { then = 4 * r.0 + 1; left = is (4 * r.0 + 1) (record { gets = r.0; ahead = r.1; count = omega arith }); less = inl (omega (arith, count, r.2)) }

module _ (w : World Run) (g : IsGood know w) (p : Name) (carried : Carried) (level key : ℕ) where
  sure_of : (a : Approach) → know (w.proc p) ≡ know_approach carried level key a → IsSure w p (know_approach carried level key a)
  sure_of a is = subst (λ (z : Know). IsSure w p z) is (g.sure p)

  entered : (c : Page) (b : Approach) (turns : ℕ) → c ≡ w.now.contents 0 → level < (roots_of c).levels → Enters level (roots_of c) b → IsLeft w.now.contents key AtAnchor 0 0 turns → Shorter w.now.contents key b (seen.Words c) turns
  entered c way.Start turns is some t l = absurd (omega (arith, some, t))
  entered c (way.At x) turns is some t l =
      let to : At x ≡ At (top_of (roots_of (w.now.contents 0))) = ap At (t.1 ∙ ap (λ v. top_of (roots_of v)) is) in
      goes_on w.now.contents key (way.At x) (seen.Words c) AtAnchor (At x) 0 1 0 turns (omega arith) (omega arith) to l (λ n h. (0, inl refl, h))
  entered c (way.Latching x) turns is some t l =
      let last : (roots_of c).levels - 1 ≡ level = (let e = t.0 in omega (arith, e)) in
      let top : x ≡ top_of (roots_of c) = t.1 ∙ ap (roots_of c).leftmost (sym last) in
      let to : At x ≡ At (top_of (roots_of (w.now.contents 0))) = ap At (top ∙ ap (λ v. top_of (roots_of v)) is) in
      goes_on w.now.contents key (way.Latching x) (seen.Words c) AtAnchor (At x) 0 0 0 turns (omega arith) (omega arith) to l (λ n h. h)
  entered c (way.Latched x) turns is some t l = absurd t
  entered c (way.Leaving x to) turns is some t l = absurd t

  -- where it leads in the world
  there : (x : ℕ) (c : Page) (o : Step) → c ≡ w.now.contents x → Leads c key 0 o → Leads (w.now.contents x) key 0 o
  there x c o is h = subst (λ v. Leads v key 0 o) is h

  -- no more than two, and none at a page that covers the key
  saved_few : (c : Page) (saved : ℕ) → IsSaved c saved → saved ≤ 2
  saved_few c saved h = elim h [ inl none ↦ omega (arith, none) | inr two ↦ (let e = two.0 in omega (arith, e)) ]

  saved_none : (x : ℕ) (c : Page) (saved : ℕ) → c ≡ w.now.contents x → Leads c key level Here → IsSaved (w.now.contents x) saved → saved ≡ 0
  saved_none x c saved is h s = elim s [
    | inl none ↦ none
    | inr two ↦ absurd (let above = h.1.1 in let end : (node_of c).shape.end ≡ 0 = ap (λ v. (node_of v).shape.end) is ∙ two.1 in omega (arith, above, end))
  ]

  turned : (x : ℕ) (c : Page) (o : Step) (b : Approach) (saved turns : ℕ) → IsSaved (w.now.contents x) saved → c ≡ w.now.contents x → level ≤ (node_of c).shape.level → Leads c key level o → Turns level x c o b → IsLeft w.now.contents key (At x) 1 saved turns → Shorter w.now.contents key b (seen.Words c) turns
  turned x c Again way.Start saved turns some is least h t l = goes_on w.now.contents key way.Start (seen.Words c) (At x) AtAnchor 1 0 saved turns (omega arith) (saved_few (w.now.contents x) saved some) (there x c Again is (leads_again c key level least h)) l (λ n k. k)
  turned x c (Right y) (way.At z) saved turns some is least h t l = goes_on w.now.contents key (way.At z) (seen.Words c) (At x) (At z) 1 1 saved turns (omega arith) (saved_few (w.now.contents x) saved some) (inl (subst (λ v. Leads (w.now.contents x) key 0 (Right v)) (sym t.0) (there x c (Right y) is (leads_right c key level y h)))) l (λ n k. (0, inl refl, k))
  turned x c (Right y) (way.Latching z) saved turns some is least h t l = goes_on w.now.contents key (way.Latching z) (seen.Words c) (At x) (At z) 1 0 saved turns (omega arith) (saved_few (w.now.contents x) saved some) (inl (subst (λ v. Leads (w.now.contents x) key 0 (Right v)) (sym t.0) (there x c (Right y) is (leads_right c key level y h)))) l (λ n k. k)
  turned x c (Down y) (way.At z) saved turns some is least h t l = goes_on w.now.contents key (way.At z) (seen.Words c) (At x) (At z) 1 1 saved turns (omega arith) (saved_few (w.now.contents x) saved some) (inr (subst (λ v. Leads (w.now.contents x) key 0 (Down v)) (sym t.0) (there x c (Down y) is (leads_down c key level y h)))) l (λ n k. (0, inl refl, k))
  turned x c (Down y) (way.Latching z) saved turns some is least h t l = goes_on w.now.contents key (way.Latching z) (seen.Words c) (At x) (At z) 1 0 saved turns (omega arith) (saved_few (w.now.contents x) saved some) (inr (subst (λ v. Leads (w.now.contents x) key 0 (Down v)) (sym t.0) (there x c (Down y) is (leads_down c key level y h)))) l (λ n k. k)
  turned x c Here (way.Latching z) saved turns some is least h t l = (let count = l.count in let none = saved_none x c saved is h some in subst (λ v. Shorter w.now.contents key (way.Latching v) (seen.Words c) turns) (sym t) (record { then = 4 * l.gets; left = record { gets = l.gets; ahead = l.ahead; count = omega arith }; less = inl (omega (arith, count, none)) }))
  turned x c o b saved turns some is least h t l = absurd t

  quitted : (x : ℕ) (c : Page) (y : ℕ) (to : Option ℕ) (o : Step) (turns : ℕ) → c ≡ w.now.contents x → (node_of c).shape.level ≡ level → Leads c key level o → Quits o to → IsLeft w.now.contents key (At x) 0 1 turns → Shorter w.now.contents key (way.Leaving y to) (seen.Words c) turns
  quitted x c y to (Right z) turns is same h t l =
      subst (λ v. Shorter w.now.contents key (way.Leaving y v) (seen.Words c) turns) (sym t)
      (quits w.now.contents key (way.Leaving y (Some z)) (seen.Words c) x (At z) turns (inl (there x c (Right z) is (leads_right c key level z h))) l (λ n k. k))
  quitted x c y to Again turns is same h t l =
      subst (λ v. Shorter w.now.contents key (way.Leaving y v) (seen.Words c) turns) (sym t)
      (quits w.now.contents key (way.Leaving y None) (seen.Words c) x AtAnchor turns (there x c Again is (leads_again c key level (omega (arith, same)) h)) l (λ n k. k))
  quitted x c y to (Down z) turns is same h t l = absurd (omega (arith, h.2, same))
  quitted x c y to Here turns is same h t l = absurd t

  -- opened, and on
  opened : (b : Approach) (e : Descent) (turns : ℕ) → IsLeft w.now.contents key e 1 0 turns → ((n : ℕ) → IsLeft w.now.contents key e 0 0 n → WayLeft w.now.contents key b n) → Shorter w.now.contents key b seen.Done turns
  opened b e turns l is = (let count = l.count in record { then = 4 * l.gets; left = is (4 * l.gets) (record { gets = l.gets; ahead = l.ahead; count = omega arith }); less = inl (omega (arith, count)) })

  pub shortens : (a b : Approach) (what : Seen) (turns : ℕ) → know (w.proc p) ≡ know_approach carried level key a → HasLevel level a what → IsObserved w.now w.size (approach_next a) what → Approaches level key a what (came.On b) → WayLeft w.now.contents key a turns → Shorter w.now.contents key b what turns
  shortens a b what turns is some observed t l = by (approach_case level key a what (came.On b) t) is some observed l
    where
      by : {a b : Approach} {what : Seen} → ApproachCase level key a what (came.On b) → know (w.proc p) ≡ know_approach carried level key a → HasLevel level a what → IsObserved w.now w.size (approach_next a) what → WayLeft w.now.contents key a turns → Shorter w.now.contents key b what turns
      by (ApproachEntered c b t) is some observed l = entered c b turns observed some t l
      by (ApproachTurned x c b o h t) is some observed l =
          let least = (sure_of (way.At x) is).goes.0.least in
          let same : (nodes w.now x).shape.level ≡ (node_of c).shape.level = ap (λ v. (node_of v).shape.level) (sym observed) in
          turned x c o b l.0 turns l.1 observed (omega (arith, least, same)) h t l.2
      by (ApproachLatchedPage x b e) is some observed l =
          let count = l.count in
          let there = ahead_some w.now.contents key (At x) l.gets l.ahead in
          subst (λ v. Shorter w.now.contents key v seen.Done turns) (sym e) (record { then = 4 * l.gets - 1; left = record { gets = l.gets; ahead = l.ahead; count = omega (arith, there) }; less = inl (omega (arith, count, there)) })
      by (ApproachMissedPage x b e) is some observed l = (let count = l.count in subst (λ v. Shorter w.now.contents key v seen.Missed turns) (sym e) (record { then = 4 * l.gets + 1; left = (0, inl refl, record { gets = l.gets; ahead = l.ahead; count = omega arith }); less = inr (refl, omega (arith, count)) }))
      by (ApproachQuitted x c y to t) is some observed l =
          let goes = (sure_of (way.Latched x) is).goes.0 in
          let least = goes.least in
          let most = goes.most in
          let same : (nodes w.now x).shape.level ≡ (node_of c).shape.level = ap (λ v. (node_of v).shape.level) (sym observed) in
          quitted x c y to t.1.0 turns observed (omega (arith, least, most, same)) t.1.1 t.1.2 l
      by (ApproachOpenedFor x y b e) is some observed l = subst (λ v. Shorter w.now.contents key v seen.Done turns) (sym e) (opened (way.Latching y) (At y) turns l (λ n h. h))
      by (ApproachOpenedLost x b e) is some observed l = subst (λ v. Shorter w.now.contents key v seen.Done turns) (sym e) (opened way.Start AtAnchor turns l (λ n h. h))

-- A page that covers no key is never opened again for a writer: to miss its latch is no wait, and leaves fewer turns.
pub missed_fewer : (contents : ℕ → Page) (key x turns : ℕ) → (node_of (contents x)).shape.end ≡ 0 → WayLeft contents key (way.Latching x) turns → (then : ℕ) × WayLeft contents key (way.At x) then × (then < turns)
missed_fewer contents key x turns none l =
    let count = l.count in
    let there = ahead_some contents key (At x) l.gets l.ahead in
    (4 * l.gets - 1, (2, inr (refl, none), record { gets = l.gets; ahead = l.ahead; count = omega (arith, there) }), omega (arith, count, there))

-- And there is such a number, eight for each page of the index and one more at most.
pub record IsShort (w : World Run) (key : ℕ) (a : Approach) : Type 0 where
  pub turns : ℕ
  pub left : WayLeft w.now.contents key a turns
  pub few : turns ≤ 8 * w.size + 1

module _ (w : World Run) (g : IsGood know w) (p : Name) (carried : Carried) (level key : ℕ) (low : level ≤ 12) where
  from_anchor : key < unbounded → Near w.now.contents key AtAnchor (2 * w.size)
  from_anchor small = descent_near know w g key small p AtAnchor tt

  pub from_page : (x most : ℕ) → most ≤ 12 → key < unbounded → IsGoes w p (goes_to x level most) → Near w.now.contents key (At x) (2 * w.size)
  from_page x most few small goes = (let at = goes.most in descent_near know w g key small p (At x) (record { may = goes.may; least = omega arith; most = omega (arith, at, few) }, tt))

  pub short : (a : Approach) → know (w.proc p) ≡ know_approach carried level key a → IsShort w key a
  short way.Start is = (let n = from_anchor (sure_of w g p carried level key way.Start is).sound in let few = n.few in record { turns = 4 * n.gets; left = record { gets = n.gets; ahead = n.ahead; count = omega arith }; few = omega (arith, few) })
  short (way.At x) is = (let s = sure_of w g p carried level key (way.At x) is in let n = from_page x 12 (omega arith) s.sound s.goes.0 in let few = n.few in record { turns = 4 * n.gets + 1; left = (0, inl refl, record { gets = n.gets; ahead = n.ahead; count = omega arith }); few = omega (arith, few) })
  short (way.Latching x) is = (let s = sure_of w g p carried level key (way.Latching x) is in let n = from_page x level low s.sound s.goes.0 in let few = n.few in record { turns = 4 * n.gets; left = record { gets = n.gets; ahead = n.ahead; count = omega arith }; few = omega (arith, few) })
  short (way.Latched x) is = (let s = sure_of w g p carried level key (way.Latched x) is in let n = from_page x level low s.sound s.goes.0 in let few = n.few in let there = ahead_some w.now.contents key (At x) n.gets n.ahead in record { turns = 4 * n.gets - 1; left = record { gets = n.gets; ahead = n.ahead; count = omega (arith, there) }; few = omega (arith, few) })
  short (way.Leaving x None) is = (let n = from_anchor (sure_of w g p carried level key (way.Leaving x None) is).sound in let few = n.few in record { turns = 4 * n.gets + 1; left = record { gets = n.gets; ahead = n.ahead; count = omega arith }; few = omega (arith, few) })
  short (way.Leaving x (Some y)) is = (let s = sure_of w g p carried level key (way.Leaving x (Some y)) is in let n = from_page y level low s.sound s.goes.0 in let few = n.few in record { turns = 4 * n.gets + 1; left = record { gets = n.gets; ahead = n.ahead; count = omega arith }; few = omega (arith, few) })
