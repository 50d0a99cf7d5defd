-- Whoever is in the middle of a compression has its trail say so: since it last latched a page it has put one of the two
-- children, and not the other one.
use Rattle.std.proofs.Common.{ℕ, ◌≡◌, ◌≢◌, ◌⊎◌, ◌++◌, List, [], ◌∷◌, Option, None, Some, arith, ap, sym, ◌∙◌, refl, subst, inl, inr, append_assoc}
use Rattle.std.specs.Prelude.{Contains}
use Rattle.std.proofs.lemmas.List.Elements.{Contains-push, Contains-push_cases, Contains-append_left, Contains-append_right, Contains-append_cases}
use Rattle.bl_model.specs.declared.operation.Reply.{Reply}
use Rattle.bl_page.specs.declared.page.Page.{Page}
use Rattle.bl_page.specs.declared.machine.Missed.{Missed}
use Rattle.bl_page.specs.Machine.{Name, Act}
use Rattle.bl_page.specs.Machine.Phase.{Running}
use Rattle.bl_page.specs.Machine.Act.{Begin, End, Get, Put, Take, Latch, Retire, Look, Release, Miss}
use Rattle.bl_tree.specs.Trees.Status.{Right}
use Rattle.bl_page.specs.Nodes.{node_of}
use Rattle.bl_rearrange.specs.declared.sides.Side.{Side}
use Rattle.bl_rearrange.specs.declared.sides.Side.TheVariants as side
use Rattle.bl_claims.specs.Trails.{Mark, Trail, marks_of}
use Rattle.bl_claims.specs.Moments.{Puts as PutsPage, IsMiddleBy, InMiddle, InEvening}
use Rattle.bl_tree_worlds.specs.Worlds.{Middle, World, nodes, HasMiddle, IsSure, IsGood}
use Rattle.bl_tree_worlds.specs.Observed.{TellsMiddles}
use Rattle.bl_proc_steps.specs.declared.approach.Approach.TheVariants as way
use Rattle.bl_proc_compress.specs.declared.compression.Puts.{Puts}
use Rattle.bl_proc_compress.specs.declared.compression.Compression.TheVariants.{PuttingParent, PuttingLast}
use Rattle.bl_proc_compress.specs.declared.compress.CompressStage.{CompressStage}
use Rattle.bl_proc_compress.specs.declared.compress.CompressStage.TheVariants as compress
use Rattle.bl_proc_invariant.specs.Compressing.{AreThree, left_now, right_now}
use Rattle.bl_claims.specs.Squeezed.{acts_in, acts_of, Since}
use Rattle.bl_proc_invariant.specs.Logs.{put_act, IsToCompress, proc_log, compress_log}
use Rattle.bl_proc_invariant.specs.Knowing.{Run, know_of, know_compress, know}
use Rattle.bl_proc_invariant.proofs.Plain.{of_middle}

-- all but a miss is done
acts_cases : (a : Act Page Reply) → ((what : Missed) × (a ≡ Miss what)) ⊎ (acts_in a ≡ a ∷ [])
acts_cases Begin = inr refl
acts_cases (End answer) = inr refl
acts_cases (Get x) = inr refl
acts_cases (Put x c) = inr refl
acts_cases (Take x) = inr refl
acts_cases (Latch x) = inr refl
acts_cases (Act.Open x) = inr refl
acts_cases (Retire x) = inr refl
acts_cases (Look what) = inr refl
acts_cases (Release x) = inr refl
acts_cases (Miss what) = inl (what, refl)

cons_cases : {A : Type 0} (a : A) (xs : List A) (v : A) → Contains (a ∷ xs) v → (a ≡ v) ⊎ Contains xs v
cons_cases a xs v c = elim (Contains-append_cases (a ∷ []) xs v c) [
  | inl i ↦ elim (Contains-push_cases [] a v i) [ inl n ↦ absurd (omega (arith, n.1)) | inr e ↦ inl e ]
  | inr i ↦ inr i
]

head_in : {A : Type 0} (a : A) (xs : List A) → Contains (a ∷ xs) a
head_in a xs = Contains-append_left (a ∷ []) xs a (Contains-push [] a)

-- what a mark tells is among what was done
among : (ms : Trail) (m : Mark) (a : Act Page Reply) → Contains ms m → m.event.act ≡ a → ((what : Missed) → a ≢ Miss what) → Contains (acts_of ms) a
among [] m a c e n = absurd (omega (arith, c.1))
among (o ∷ ms) m a c e n = elim (cons_cases o ms m c) [
  | inr i ↦ Contains-append_right (acts_in o.event.act) (acts_of ms) a (among ms m a i e n)
  | inl i ↦
      let same : o.event.act ≡ a = ap (λ z. z.event.act) i ∙ e in
      elim (acts_cases o.event.act) [
        | inl miss ↦ absurd (n miss.0 (sym same ∙ miss.1))
        | inr one ↦ Contains-append_left (acts_in o.event.act) (acts_of ms) a (subst (λ z. Contains z a) (sym (one ∙ ap (λ z. z ∷ []) same)) (head_in a []))
      ]
]

-- where something was done, what was done before and after
pub record CutAt (ms : Trail) (a : Act Page Reply) (ys : List (Act Page Reply)) : Type 0 where
  pub before : Trail
  pub mark : Mark
  pub rest : Trail
  pub split : ms ≡ before ++ mark ∷ rest
  pub is : mark.event.act ≡ a
  pub after : acts_of rest ≡ ys

same_head : (a b : Act Page Reply) (xs ys : List (Act Page Reply)) → ◌≡◌ {A = List (Act Page Reply)} (a ∷ xs) (b ∷ ys) → (a ≡ b) × (xs ≡ ys)
same_head a b xs ys e = (cc, cc)

cut_at : (ms : Trail) (xs ys : List (Act Page Reply)) (a : Act Page Reply) → acts_of ms ≡ xs ++ a ∷ ys → CutAt ms a ys
cut_at [] [] ys a e = absurd (let f = e in cc)
cut_at [] (x ∷ xs) ys a e = absurd (let f = e in cc)
cut_at (o ∷ ms) [] ys a e = elim (acts_cases o.event.act) [
  | inl miss ↦
      let r = cut_at ms [] ys a (sym (ap (λ z. acts_in z ++ acts_of ms) miss.1) ∙ e) in
      record { before = o ∷ r.before; mark = r.mark; rest = r.rest; split = ap (λ z. o ∷ z) r.split; is = r.is; after = r.after }
  | inr one ↦
      let h = same_head o.event.act a (acts_of ms) ys (sym (ap (λ z. z ++ acts_of ms) one) ∙ e) in
      record { before = []; mark = o; rest = ms; split = refl; is = h.0; after = h.1 }
]
cut_at (o ∷ ms) (x ∷ xs) ys a e = elim (acts_cases o.event.act) [
  | inl miss ↦
      let r = cut_at ms (x ∷ xs) ys a (sym (ap (λ z. acts_in z ++ acts_of ms) miss.1) ∙ e) in
      record { before = o ∷ r.before; mark = r.mark; rest = r.rest; split = ap (λ z. o ∷ z) r.split; is = r.is; after = r.after }
  | inr one ↦
      let h = same_head o.event.act x (acts_of ms) (xs ++ a ∷ ys) (sym (ap (λ z. z ++ acts_of ms) one) ∙ e) in
      let r = cut_at ms xs ys a h.1 in
      record { before = o ∷ r.before; mark = r.mark; rest = r.rest; split = ap (λ z. o ∷ z) r.split; is = r.is; after = r.after }
]

same_put : (x y : ℕ) (c d : Page) → ◌≡◌ {A = Act Page Reply} (Put x c) (Put y d) → x ≡ y
same_put x y c d e = cc

-- After the last latch one child was put, and then at most the parent.
module _ (u : Puts) (three : AreThree u.at) (tail : List (Act Page Reply)) (parent_only : (a : Act Page Reply) → Contains tail a → (page : Page) × (a ≡ Put u.at.parent page)) where
  -- the number of the child that was put, and of the other one
  abbrev gained : Side → ℕ
  gained side.Left = u.at.left
  gained side.Right = u.at.right

  abbrev lost : Side → ℕ
  lost side.Left = u.at.right
  lost side.Right = u.at.left

  abbrev page_of : Side → Page
  page_of side.Left = u.left
  page_of side.Right = u.right

  put_is : (sd : Side) → put_act sd u ≡ Put (gained sd) (page_of sd)
  put_is side.Left = refl
  put_is side.Right = refl

  differ : (sd : Side) → gained sd ≢ lost sd
  differ side.Left = three.both
  differ side.Right = λ e. three.both (sym e)

  above : (sd : Side) → u.at.parent ≢ lost sd
  above side.Left = three.right
  above side.Right = three.left

  did : (rest : Trail) (sd : Side) → acts_of rest ≡ Get u.at.right ∷ put_act sd u ∷ tail → PutsPage rest (gained sd)
  did rest sd e =
      let r = cut_at rest (Get u.at.right ∷ []) tail (put_act sd u) e in
      record { mark = r.mark; is = subst (λ z. Contains z r.mark) (sym r.split) (Contains-append_right r.before (r.mark ∷ r.rest) r.mark (head_in r.mark r.rest)); page = page_of sd; act = r.is ∙ put_is sd }

  not_yet : (rest : Trail) (sd : Side) → acts_of rest ≡ Get u.at.right ∷ put_act sd u ∷ tail → PutsPage rest (lost sd) → ⊥
  not_yet rest sd e h =
      let c = subst (λ z. Contains z (Put (lost sd) h.page)) e (among rest h.mark (Put (lost sd) h.page) h.is h.act (λ what i. cc)) in
      elim (cons_cases (Get u.at.right) (put_act sd u ∷ tail) (Put (lost sd) h.page) c) [
        | inl i ↦ cc
        | inr i ↦ elim (cons_cases (put_act sd u) tail (Put (lost sd) h.page) i) [
          | inl j ↦ differ sd (same_put (gained sd) (lost sd) (page_of sd) h.page (sym (put_is sd) ∙ j))
          | inr j ↦ let o = parent_only (Put (lost sd) h.page) j in above sd (sym (same_put (lost sd) u.at.parent h.page o.0 o.1))
        ]
      ]

  half : (rest : Trail) (sd : Side) → acts_of rest ≡ Get u.at.right ∷ put_act sd u ∷ tail → (PutsPage rest u.at.left × (PutsPage rest u.at.right → ⊥)) ⊎ (PutsPage rest u.at.right × (PutsPage rest u.at.left → ⊥))
  half rest side.Left e = inl (did rest side.Left e, not_yet rest side.Left e)
  half rest side.Right e = inr (did rest side.Right e, not_yet rest side.Right e)

  no_latch : (sd : Side) (z : ℕ) → Contains (Get u.at.right ∷ put_act sd u ∷ tail) (Latch z) → ⊥
  no_latch sd z c = elim (cons_cases (Get u.at.right) (put_act sd u ∷ tail) (Latch z) c) [
    | inl i ↦ cc
    | inr i ↦ elim (cons_cases (put_act sd u) tail (Latch z) i) [
      | inl j ↦ (let k : Put (gained sd) (page_of sd) ≡ Latch z = sym (put_is sd) ∙ j in cc)
      | inr j ↦ (let o = (parent_only (Latch z) j).1 in cc)
    ]
  ]

  pub in_middle : (marks : Trail) (x : ℕ) → Since marks x (Get u.at.parent ∷ Latch u.at.left ∷ Get u.at.left ∷ Latch u.at.right ∷ Get u.at.right ∷ put_act u.gains u ∷ tail) → IsMiddleBy marks u.at.left u.at.right
  in_middle marks x h =
      let r = cut_at h.during (Get u.at.parent ∷ Latch u.at.left ∷ Get u.at.left ∷ []) (Get u.at.right ∷ put_act u.gains u ∷ tail) (Latch u.at.right) h.acts_are in
      record {
        latched = record {
          before = h.before ++ h.latch ∷ r.before;
          last = r.mark;
          since = r.rest;
          split = h.split ∙ (ap (λ z. h.before ++ h.latch ∷ z) r.split ∙ sym (append_assoc h.before (h.latch ∷ r.before) (r.mark ∷ r.rest)));
          is = (u.at.right, r.is);
          never_again = λ m c l. no_latch u.gains l.0 (subst (λ z. Contains z (Latch l.0)) r.after (among r.rest m (Latch l.0) c l.1 (λ what i. cc)));
        };
        put_one = half r.rest u.gains r.after;
      }

-- a part of what may be known
abbrev part_of : (Middle → ℕ) → Option Middle → ℕ
part_of f None = 0
part_of f (Some m) = f m

-- each process that runs has done what its state tells
abbrev pub KeepsLogs : World Run → Type 0
KeepsLogs w = (p : Name) (since : ℕ) → w.now.phase p ≡ Running since → proc_log (w.proc p).state (marks_of p w.trail)

module _ (w : World Run) (g : IsGood know w) (logs : KeepsLogs w) (x y : ℕ) (at : w.status y ≡ Right x) where
  m : HasMiddle know w x y
  m = g.middles x y at

  abbrev whole : Middle
  whole = record { parent = m.parent; left = x; right = y }

  -- the list of what was done ends so
  same_since : (level key : ℕ) (u : Puts) (tail : List (Act Page Reply)) {marks : Trail} (s : IsToCompress level key marks u (Get u.at.parent ∷ Latch u.at.left ∷ Get u.at.left ∷ Latch u.at.right ∷ Get u.at.right ∷ put_act u.gains u ∷ tail)) → Since marks s.family.at.parent (Get u.at.parent ∷ Latch u.at.left ∷ Get u.at.left ∷ Latch u.at.right ∷ Get u.at.right ∷ put_act u.gains u ∷ tail)
  same_since level key u tail s = s.both.left.family.since

  by_stage : (level key : ℕ) (got : ℕ → Page) (stage : CompressStage) → (know_compress level key got stage).middle ≡ Some whole → ((since : ℕ) → w.now.phase m.by ≡ Running since → compress_log level key stage (marks_of m.by w.trail)) → IsSure w m.by (know_compress level key got stage) → InMiddle w.now w.trail x y × (((nodes w.now y).shape.low ≡ w.sep y) ⊎ InEvening w.now w.trail y)
  by_stage level key got (compress.Compressing (PuttingParent u)) e log sure =
      let left : u.at.left ≡ x = ap (part_of (λ z. z.left)) e in
      let right : u.at.right ≡ y = ap (part_of (λ z. z.right)) e in
      let three : AreThree u.at = sure.sound.1 in
      let by : IsMiddleBy (marks_of m.by w.trail) u.at.left u.at.right = in_middle u three [] (λ a c. absurd (omega (arith, c.1))) (marks_of m.by w.trail) _ (same_since level key u [] (log sure.stage.0 sure.stage.1)) in
      let middle : InMiddle w.now w.trail x y = subst (λ (z : ℕ × ℕ). InMiddle w.now w.trail z.0 z.1) (λ i. (left i, right i)) (record { holder = m.by; held = sure.holds.1.0.owner; held_right = sure.holds.1.1.0.owner; by = by }) in
      let right_page = sure.holds.1.1.0.page in
      let sep = sure.holds.1.1.0.sep in (
        middle,
        elim sure.sound.0.does [
          | inl t ↦ inl (subst (λ z. (nodes w.now z).shape.low ≡ w.sep z) right (ap (λ v. (node_of v).shape.low) (right_page ∙ ap (right_now got u) t.gains) ∙ sym sep))
          | inr v ↦ elim v [
            | inl t ↦ inl (subst (λ z. (nodes w.now z).shape.low ≡ w.sep z) right (ap (λ v. (node_of v).shape.low) (right_page ∙ ap (right_now got u) t.gains) ∙ sym sep))
            | inr t ↦ inr (record { left = x; linked = subst (λ (z : ℕ × ℕ). (nodes w.now z.0).shape.right ≡ z.1) (λ i. (left i, right i)) (ap (λ v. (node_of v).shape.right) (sure.holds.1.0.page ∙ ap (left_now got u) t.gains) ∙ sure.sound.0.linked); middle = middle })
          ]
        ],
      )
  by_stage level key got (compress.Compressing (PuttingLast u)) e log sure =
      let left : u.at.left ≡ x = ap (part_of (λ z. z.left)) e in
      let right : u.at.right ≡ y = ap (part_of (λ z. z.right)) e in
      let three : AreThree u.at = sure.sound.1 in
      let by : IsMiddleBy (marks_of m.by w.trail) u.at.left u.at.right = in_middle u three (Put u.at.parent u.parent ∷ []) (λ a c. (u.parent, one_of (Put u.at.parent u.parent) a c)) (marks_of m.by w.trail) _ (same_since level key u (Put u.at.parent u.parent ∷ []) (log sure.stage.0 sure.stage.1)) in
      let middle : InMiddle w.now w.trail x y = subst (λ (z : ℕ × ℕ). InMiddle w.now w.trail z.0 z.1) (λ i. (left i, right i)) (record { holder = m.by; held = sure.holds.1.0.owner; held_right = sure.holds.1.1.0.owner; by = by }) in
      let right_page = sure.holds.1.1.0.page in
      let sep = sure.holds.1.1.0.sep in (
        middle,
        elim sure.sound.0.does [
          | inl t ↦ inl (subst (λ z. (nodes w.now z).shape.low ≡ w.sep z) right (ap (λ v. (node_of v).shape.low) (right_page ∙ ap (right_now got u) t.gains) ∙ (sym t.same ∙ sym sep)))
          | inr v ↦ elim v [
            | inl t ↦ inr (record { left = x; linked = subst (λ (z : ℕ × ℕ). (nodes w.now z.0).shape.right ≡ z.1) (λ i. (left i, right i)) (ap (λ v. (node_of v).shape.right) (sure.holds.1.0.page ∙ ap (left_now got u) t.gains) ∙ t.gain.right); middle = middle })
            | inr t ↦ inl (subst (λ z. (nodes w.now z).shape.low ≡ w.sep z) right (ap (λ v. (node_of v).shape.low) (right_page ∙ ap (right_now got u) t.gains) ∙ sym sep))
          ]
        ],
      )
    where
      one_of : (a b : Act Page Reply) → Contains (a ∷ []) b → b ≡ a
      one_of a b c = elim (cons_cases a [] b c) [ inl e ↦ sym e | inr n ↦ absurd (omega (arith, n.1)) ]
  by_stage level key got (compress.Coming way.Start) e log sure = absurd (let f = e in cc)
  by_stage level key got (compress.Coming (way.Leaving z None)) e log sure = absurd (let f = e in cc)
  by_stage level key got old e log sure = absurd (let f = e in cc)

  tells : InMiddle w.now w.trail x y × (((nodes w.now y).shape.low ≡ w.sep y) ⊎ InEvening w.now w.trail y)
  tells =
      let r = w.proc m.by in
      elim (of_middle r.got r.child r.time r.state) [
        | inl none ↦ absurd (let i = m.is in let n : (know (w.proc m.by)).middle ≡ None = none in cc)
        | inr a ↦ by_stage a.0.level a.0.key r.got a.0.stage
            (subst (λ s. (know_of r.got r.child r.time s).middle ≡ Some whole) a.1 m.is)
            (λ since runs. subst (λ s. proc_log s (marks_of m.by w.trail)) a.1 (logs m.by since runs))
            (subst (λ s. IsSure w m.by (know_of r.got r.child r.time s)) a.1 (g.sure m.by))
      ]

pub tells_middles : (w : World Run) → IsGood know w → KeepsLogs w → TellsMiddles w
tells_middles w g logs = record { middle = λ x y e. (tells w g logs x y e).0; evening = λ x y e. (tells w g logs x y e).1 }
