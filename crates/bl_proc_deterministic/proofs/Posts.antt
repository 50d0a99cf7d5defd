-- A post goes on, and in one way.
use Rattle.std.proofs.Common.{ℕ, ◌≡◌, ◌≢◌, ◌-◌, ◌<◌, ◌≤◌, Option, Some, None, refl, sym, ap, ◌∙◌, subst, inl, inr, arith}
use Rattle.std.specs.Coded.{le_prop}
use Rattle.std.proofs.Props.{props}
use Rattle.std.proofs.lemmas.Bool.{cases_lt, cases_eq}
use mathlib.Core.HLevel.{is_prop→PathP}
use Rattle.bl_model.specs.Rows.{map_of}
use Rattle.bl_page.specs.declared.page.Page.{Page}
use Rattle.bl_page.specs.declared.page.Page.TheVariants as page
use Rattle.bl_page.specs.declared.page.Inner.{Inner}
use Rattle.bl_page.specs.Pairs.{IsChild, IsWithin, IsWithin-prop, IsChild-prop}
use Rattle.bl_page.specs.Nodes.{node_of, IsChildOf}
use Rattle.bl_proc_steps.specs.declared.acts.Seen.{Seen}
use Rattle.bl_proc_steps.specs.declared.acts.Seen.TheVariants as seen
use Rattle.bl_proc_routes.specs.declared.routes.Step.{Step}
use Rattle.bl_proc_routes.specs.declared.routes.Step.TheVariants.{Again, Right, Down, Here}
use Rattle.bl_proc_steps.specs.declared.approach.Approach.{Approach}
use Rattle.bl_proc_steps.specs.declared.approach.Approach.TheVariants.{Start, Leaving}
use Rattle.bl_proc_steps.specs.declared.approach.Came.{Came}
use Rattle.bl_proc_steps.specs.declared.approach.Came.TheVariants as come
use Rattle.bl_proc_steps.specs.declared.growth.Growth.{Growth}
use Rattle.bl_proc_steps.specs.declared.growth.Growth.TheVariants as growth
use Rattle.bl_proc_steps.specs.declared.growth.Grew.{Grew}
use Rattle.bl_proc_steps.specs.declared.growth.Grew.TheVariants as grew
use Rattle.bl_proc_steps.specs.declared.edit.Edit.{Edit}
use Rattle.bl_proc_steps.specs.declared.edit.Edited.{Edited}
use Rattle.bl_proc_steps.specs.declared.edit.Edited.TheVariants as edit
use Rattle.bl_proc_steps.specs.Given.{Gives}
use Rattle.bl_proc_routes.specs.Routes.{Leads}
use Rattle.bl_proc_steps.specs.Approaches.{Comes}
use Rattle.bl_proc_steps.specs.Edits.{EntersPair, Changes}
use Rattle.bl_proc_steps.specs.Growths.{Grows}
use Rattle.bl_proc.specs.declared.kinds.Proc.{Proc}
use Rattle.bl_proc.specs.declared.kinds.Proc.TheVariants as proc
use Rattle.bl_proc_writes.specs.declared.walking.Walk.{Walk}
use Rattle.bl_proc_writes.specs.declared.post.Post.{Post}
use Rattle.bl_proc_writes.specs.Levels.{IsBelowTop, IsBelowTop-prop}
use Rattle.bl_proc_writes.proofs.Below.{goes_below}
use Rattle.bl_proc_writes.specs.declared.post.PostStage.{PostStage}
use Rattle.bl_proc_writes.specs.declared.post.PostStage.TheVariants.{New, Coming, Growing, Walking, Editing, Staying, Ending, Over}
use Rattle.bl_proc_writes.specs.declared.post.PostReply.{PostReply}
use Rattle.bl_proc_writes.specs.declared.post.PostReply.TheVariants as reply
use Rattle.bl_proc_writes.specs.Posts.{post_reply, post_next_in, post_needs_in, post_answer_in, PostLacks, PostArrives, IsLost, PostWalks, PostComes, PostGoes}
use Rattle.bl_proc.specs.Processes.{Takes}
use Rattle.bl_proc_writes.proofs.Named.{listed-child}
use Rattle.bl_proc_steps.proofs.Ways.{here_leads}
use Rattle.bl_proc_deterministic.specs.Courses.{GoesOn}
use Rattle.bl_proc_deterministic.specs.One.{One}
use Rattle.bl_proc_deterministic.proofs.Cases.{one_after}
use Rattle.bl_proc_deterministic.proofs.Onwards.{leads_some, leads_one, child_of, child_one, right_small}
use Rattle.bl_proc_deterministic.proofs.Ways.{come_one}
use Rattle.bl_proc_deterministic.proofs.Edits.{enter_one, edit_one}
use Rattle.bl_proc_deterministic.proofs.Growths.{growth_one}
use Rattle.bl_proc_deterministic.proofs.KindCases.{PostCase, post_case}

walk_same : (a b : Walk) → a.at ≡ b.at → a.key ≡ b.key → a.parent ≡ b.parent → a.child ≡ b.child → a ≡ b
walk_same a b at key parent child = λ i. record {
  at = at i;
  key = key i;
  parent = parent i;
  child = child i;
  covers = is_prop→PathP (λ i. IsWithin (parent i).low (parent i).high (key i)) (λ i. IsWithin-prop (parent i).low (parent i).high (key i)) a.covers b.covers i;
  unlisted = is_prop→PathP (λ i. map_of (parent i).children.items (key i) ≡ None) (λ i. hlevel props) a.unlisted b.unlisted i;
  names = is_prop→PathP (λ i. IsChild (child i)) (λ i. IsChild-prop (child i)) a.names b.names i;
}

-- In a tree that has only that many levels.
module _ (level levels : ℕ) where
  lacks_by : (Goal : PostStage → Type 0) → (levels < level → Goal (Ending reply.Stale)) → (levels ≡ level → level ≡ 12 → Goal (Ending reply.TooTall)) → (levels ≡ level → level ≢ 12 → Goal (Growing growth.Latching)) → (other : PostStage) → PostLacks level levels other → Goal other
  lacks_by Goal stale tall grow (Ending reply.Stale) t = stale t
  lacks_by Goal stale tall grow (Ending reply.TooTall) t = tall t.0 t.1
  lacks_by Goal stale tall grow (Growing growth.Latching) t = grow t.0 t.1
  lacks_by Goal stale tall grow old t = absurd t

  lack_one : levels ≤ level → One (PostLacks level levels)
  lack_one few = elim (cases_lt levels level) [
    | inl lt ↦ record { new = Ending reply.Stale; goes = lt; only = lacks_by (λ z. z ≡ Ending reply.Stale) (λ l. refl) (λ e l. absurd (omega arith)) (λ e l. absurd (omega arith)) }
    | inr ge ↦ (let is : levels ≡ level = omega arith in elim (cases_eq level 12) [
      | inl top ↦ record { new = Ending reply.TooTall; goes = (is, top); only = lacks_by (λ z. z ≡ Ending reply.TooTall) (λ l. absurd (omega arith)) (λ e l. refl) (λ e low. absurd (low top)) }
      | inr low ↦ record { new = Growing growth.Latching; goes = (is, low); only = lacks_by (λ z. z ≡ Growing growth.Latching) (λ l. absurd (omega arith)) (λ e top. absurd (low top)) (λ e l. refl) }
    ])
  ]

-- At the parent.
module _ (key x : ℕ) (parent : Inner) where
  already_only : (child : ℕ) → map_of parent.children.items key ≡ Some child → (other : PostStage) → PostArrives key x parent other → other ≡ Staying x reply.Already
  already_only child e (Walking v) t = absurd (let un : map_of parent.children.items key ≡ None = subst (λ (z : Inner × ℕ). map_of z.0.children.items z.1 ≡ None) (λ i. (t.2 i, t.1 i)) v.unlisted in let z : Some child ≡ None = sym e ∙ un in cc)
  already_only child e (Staying m reply.Already) t = λ i. Staying (t.0 i) reply.Already
  already_only child e old t = absurd t

  walk_only : (w : Walk) → w.at ≡ x → w.key ≡ key → w.parent ≡ parent → IsChildOf (node_of (page.Inner parent)).look key w.child → map_of parent.children.items key ≡ None → (other : PostStage) → PostArrives key x parent other → other ≡ Walking w
  walk_only w at is same child none (Walking v) t = ap Walking (walk_same v w (t.0 ∙ sym at) (t.1 ∙ sym is) (t.2 ∙ sym same) (child_one (node_of (page.Inner parent)).look key v.child w.child t.3 child))
  walk_only w at is same child none (Staying m reply.Already) t = absurd (let z : Some t.1.0 ≡ None = sym t.1.1 ∙ none in cc)
  walk_only w at is same child none old t = absurd t

  arrive_by : IsWithin parent.low parent.high key → (look : Option ℕ) → map_of parent.children.items key ≡ look → One (PostArrives key x parent)
  arrive_by in_it (Some child) e = record { new = Staying x reply.Already; goes = (refl, (child, e)); only = already_only child e }
  arrive_by in_it None e =
      let child = child_of parent key in_it in
      let w : Walk = record { at = x; key = key; parent = parent; child = child.0; covers = in_it; unlisted = e; names = listed-child child.1.key child.0 parent.children.items parent.pages child.1.listed } in
      record { new = Walking w; goes = (refl, refl, refl, child.1); only = walk_only w refl refl refl child.1 e }

-- By what became of the way to the parent.
after_way : (level key : ℕ) (a : Approach) (what : Seen) (m : Came) → Comes level key a what m → One (PostComes level key m)
after_way level key a what (come.NoLevel levels) h = (let one = lack_one level levels h.0 in record { new = one.new; goes = one.goes; only = one.only })
after_way level key a what (come.On b) h = record { new = Coming b; goes = refl; only = λ other e. e }
after_way level key a what (come.ToParent x parent) h = (let one = arrive_by key x parent (here_leads level key a what x (page.Inner parent) h).1 (map_of parent.children.items key) refl in record { new = one.new; goes = one.goes; only = one.only })

right_page : {x y : ℕ} → Right x ≡ Right y → x ≡ y
right_page e = cc

-- A walk has got a page.
module _ (level : ℕ) (w : Walk) (c : Page) where
  abbrev low_is : Type 0
  low_is = (node_of c).shape.low ≡ w.key

  found_only : (d : Edit) → Leads c w.key (level - 1) Here → low_is → ((f : Edit) → EntersPair w.at (page.Inner w.parent) w.key w.child f → f ≡ d) → (other : PostStage) → PostWalks level w c other → other ≡ Editing d
  found_only d h low one (Coming b) t = absurd (subst IsLost (leads_one c w.key (level - 1) t.1.0 Here t.1.1 h) t.1.2)
  found_only d h low one (Walking v) t = absurd (let e = leads_one c w.key (level - 1) Here (Right v.child) h t.3 in cc)
  found_only d h low one (Editing n) t = ap Editing (one n t.2)
  found_only d h low one (Staying m reply.Stale) t = absurd (t.2 low)
  found_only d h low one old t = absurd t

  other_only : Leads c w.key (level - 1) Here → (low_is → ⊥) → (other : PostStage) → PostWalks level w c other → other ≡ Staying w.at reply.Stale
  other_only h differs (Coming b) t = absurd (subst IsLost (leads_one c w.key (level - 1) t.1.0 Here t.1.1 h) t.1.2)
  other_only h differs (Walking v) t = absurd (let e = leads_one c w.key (level - 1) Here (Right v.child) h t.3 in cc)
  other_only h differs (Editing n) t = absurd (differs t.1)
  other_only h differs (Staying m reply.Stale) t = λ i. Staying (t.0 i) reply.Stale
  other_only h differs old t = absurd t

  right_only : (v : Walk) → v.at ≡ w.at → v.key ≡ w.key → v.parent ≡ w.parent → Leads c w.key (level - 1) (Right v.child) → (other : PostStage) → PostWalks level w c other → other ≡ Walking v
  right_only v at key parent h (Coming b) t = absurd (let zero_is : v.child ≡ 0 = subst IsLost (leads_one c w.key (level - 1) t.1.0 (Right v.child) t.1.1 h) t.1.2 in let some = v.names.0 in omega arith)
  right_only v at key parent h (Walking u) t = ap Walking (walk_same u v (t.0 ∙ sym at) (t.1 ∙ sym key) (t.2 ∙ sym parent) (right_page (leads_one c w.key (level - 1) (Right u.child) (Right v.child) t.3 h)))
  right_only v at key parent h (Editing n) t = absurd (let e = leads_one c w.key (level - 1) (Right v.child) Here h t.0 in cc)
  right_only v at key parent h (Staying m reply.Stale) t = absurd (let e = leads_one c w.key (level - 1) (Right v.child) Here h t.1 in cc)
  right_only v at key parent h old t = absurd t

  lost_only : (o : Step) → Leads c w.key (level - 1) o → IsLost o → (other : PostStage) → PostWalks level w c other → other ≡ Coming (Leaving w.at None)
  lost_only o h lost (Coming b) t = ap Coming t.0
  lost_only o h lost (Walking u) t = absurd (let zero_is : u.child ≡ 0 = subst IsLost (leads_one c w.key (level - 1) o (Right u.child) h t.3) lost in let some = u.names.0 in omega arith)
  lost_only o h lost (Editing n) t = absurd (subst IsLost (leads_one c w.key (level - 1) o Here h t.0) lost)
  lost_only o h lost (Staying m reply.Stale) t = absurd (subst IsLost (leads_one c w.key (level - 1) o Here h t.1) lost)
  lost_only o h lost old t = absurd t

  lost : (o : Step) → Leads c w.key (level - 1) o → IsLost o → One (PostWalks level w c)
  lost o h is = record { new = Coming (Leaving w.at None); goes = (refl, (o, h, is)); only = lost_only o h is }

  walk_by : (o : Step) → Leads c w.key (level - 1) o → One (PostWalks level w c)
  walk_by Again h = lost Again h tt
  walk_by (Down y) h = lost (Down y) h tt
  walk_by (Right y) h = elim (cases_eq y 0) [
    | inl none ↦ lost (Right y) h none
    | inr some ↦ (
        let link = right_small c w.key (level - 1) y h in
        let v : Walk = record { at = w.at; key = w.key; parent = w.parent; child = y; covers = w.covers; unlisted = w.unlisted; names = (omega arith, link) } in
        record { new = Walking v; goes = (refl, refl, refl, h); only = right_only v refl refl refl h })
  ]
  walk_by Here h = elim (cases_eq (node_of c).shape.low w.key) [
    | inl low ↦ (let d = enter_one w.at (page.Inner w.parent) w.key w.child w.covers w.unlisted w.names in record { new = Editing d.new; goes = (h, low, d.goes); only = found_only d.new h low d.only })
    | inr differs ↦ record { new = Staying w.at reply.Stale; goes = (refl, h, differs); only = other_only h differs }
  ]

  walk_one : One (PostWalks level w c)
  walk_one = (let o = leads_some c w.key (level - 1) in walk_by o.0 o.1)

-- By what becomes of the growth, or of the change of the parent.
abbrev after_growth : Grew → PostStage
after_growth (grew.On h) = Growing h
after_growth grew.Grown = Coming Start
after_growth grew.Refused = Ending reply.NoRoom

growth_goes : (level key : ℕ) (g : Growth) (what : Seen) (n : Grew) → Grows level g what n → PostGoes level key (Growing g) what (after_growth n)
growth_goes level key g what (grew.On h) t = t
growth_goes level key g what grew.Grown t = (t, refl)
growth_goes level key g what grew.Refused t = (t, refl)

growth_only : {level key : ℕ} {g : Growth} {what : Seen} {b : PostStage} (n : Grew) → ((o : Grew) → Grows level g what o → o ≡ n) → PostCase level key (Growing g) what b → b ≡ after_growth n
growth_only n is (PostCase.Grew g what h t) = ap after_growth (is (grew.On h) t)
growth_only n is (PostCase.Grown g what a t) = ap Coming t.1 ∙ ap after_growth (is grew.Grown t.0)
growth_only n is (PostCase.NoRoom g what r t) = ap Ending t.1 ∙ ap after_growth (is grew.Refused t.0)

abbrev after_edit : Edited → PostStage
after_edit (edit.On e) = Editing e
after_edit (edit.Over o) = Ending (post_reply o)

edit_goes : (level key : ℕ) (d : Edit) (what : Seen) (n : Edited) → Changes d what n → PostGoes level key (Editing d) what (after_edit n)
edit_goes level key d what (edit.On e) h = h
edit_goes level key d what (edit.Over o) h = (o, h, refl)

edit_only : {level key : ℕ} {d : Edit} {what : Seen} {b : PostStage} (n : Edited) → ((z : Edited) → Changes d what z → z ≡ n) → PostCase level key (Editing d) what b → b ≡ after_edit n
edit_only n is (PostCase.Edited d what e t) = ap after_edit (is (edit.On e) t)
edit_only n is (PostCase.Finished d what r t) = ap Ending t.2 ∙ ap after_edit (is (edit.Over t.0) t.1)

module _ (level key : ℕ) where
  begun_only : {b : PostStage} → PostCase level key New seen.Done b → b ≡ Coming Start
  begun_only (PostCase.Began a t) = ap Coming t

  stays_only : {x : ℕ} {q : PostReply} {b : PostStage} → PostCase level key (Staying x q) seen.Done b → b ≡ Ending q
  stays_only (PostCase.Opened x q last t) = ap Ending t

  ended_only : {q : PostReply} {b : PostStage} → PostCase level key (Ending q) seen.Done b → b ≡ Over q
  ended_only (PostCase.Ended q last t) = ap Over t

  pub stage_one : 0 < level → (a : PostStage) (what : Seen) → post_answer_in level a ≡ None → Gives (post_next_in a) (post_needs_in a) what → One (PostGoes level key a what)
  stage_one least (Coming a) what r g =
      let way = come_one level key a what least g in
      let h = one_after way (after_way level key a what way.new way.goes) in
      record { new = h.new; goes = h.goes; only = h.only }
  stage_one least (Growing n) what r g = (let h = growth_one level least n what g in record { new = after_growth h.new; goes = growth_goes level key n what h.new h.goes; only = λ b t. growth_only h.new h.only (post_case level key (Growing n) what b t) })
  stage_one least (Editing d) what r g = (let h = edit_one d what g in record { new = after_edit h.new; goes = edit_goes level key d what h.new h.goes; only = λ b t. edit_only h.new h.only (post_case level key (Editing d) what b t) })
  stage_one least New seen.Done r g = record { new = Coming Start; goes = refl; only = λ b t. begun_only (post_case level key New seen.Done b t) }
  stage_one least (Walking w) (seen.Words c) r g = (let h = walk_one level w c in record { new = h.new; goes = h.goes; only = h.only })
  stage_one least (Staying x q) seen.Done r g = record { new = Ending q; goes = refl; only = λ b t. stays_only (post_case level key (Staying x q) seen.Done b t) }
  stage_one least (Ending q) seen.Done r g = record { new = Over q; goes = refl; only = λ b t. ended_only (post_case level key (Ending q) seen.Done b t) }
  stage_one least (Over q) what r g = (let z : Some _ ≡ None = r in cc)
  stage_one least old what r g = absurd g

post_only : (old : Post) (what : Seen) (g : One (PostGoes old.level old.key old.stage what)) (other : Proc) → Takes (proc.Post old) what other → other ≡ proc.Post (record { level = old.level; key = old.key; stage = g.new; least = old.least; most = old.most; below = goes_below old.level old.key old.stage what g.new old.below g.goes })
post_only old what g (proc.Post f) t = (let e = g.only f.stage t.2 in λ i. proc.Post (record {
  level = t.0 i;
  key = t.1 i;
  stage = e i;
  least = is_prop→PathP (λ i. 0 < t.0 i) (λ i. le_prop) f.least old.least i;
  most = is_prop→PathP (λ i. t.0 i ≤ 12) (λ i. le_prop) f.most old.most i;
  below = is_prop→PathP (λ i. IsBelowTop (t.0 i) (e i)) (λ i. IsBelowTop-prop (t.0 i) (e i)) f.below (goes_below old.level old.key old.stage what g.new old.below g.goes) i;
}))
post_only old what g new t = absurd t

pub post_goes : (old : Post) (what : Seen) → post_answer_in old.level old.stage ≡ None → Gives (post_next_in old.stage) (post_needs_in old.stage) what → GoesOn (proc.Post old) what
post_goes old what running given =
    let g = stage_one old.level old.key old.least old.stage what running given in
    record { new = proc.Post (record { level = old.level; key = old.key; stage = g.new; least = old.least; most = old.most; below = goes_below old.level old.key old.stage what g.new old.below g.goes }); takes = (refl, refl, g.goes); only = post_only old what g }
