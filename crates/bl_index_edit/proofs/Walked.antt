-- A post at its parent.
use Rattle.std.proofs.Common.{ℕ, zero, suc, List, ◌≡◌, ◌≢◌, ◌-◌, ◌<◌, ◌≤◌, Option, Some, None, length, inl, inr, refl, sym, ap, ◌∙◌, subst, arith}
use Rattle.bl_page.specs.declared.page.Page.{Page}
use Rattle.bl_page.specs.declared.page.Page.TheVariants as page
use Rattle.bl_page.specs.Words.{words_of}
use Rattle.bl_page.specs.Nodes.{node_of}
use Rattle.bl_rearrange.specs.Entered.{entered}
use Rattle.bl_rearrange.specs.Rearranged.{pairs_of}
use Rattle.bl_rearrange.proofs.EnteredLemmas.{RisesFrom-entered, map_of-entered}
use Rattle.bl_proc_steps.specs.declared.acts.Seen.TheVariants as seen
use Rattle.bl_proc_steps.specs.declared.approach.Approach.TheVariants as approach
use Rattle.bl_proc_steps.specs.declared.approach.Came.TheVariants as descend
use Rattle.bl_proc_steps.specs.declared.edit.Edit.{Edit}
use Rattle.bl_proc_steps.specs.declared.edit.Edit.TheVariants as edit
use Rattle.bl_proc_steps.specs.declared.edit.Full.{Full}
use Rattle.bl_proc_steps.specs.declared.edit.Outcome.{Outcome}
use Rattle.bl_proc_steps.specs.declared.edit.Outcome.TheVariants as outcome
use Rattle.bl_proc_routes.specs.declared.routes.Step.{Step}
use Rattle.bl_proc_routes.specs.declared.routes.Step.TheVariants.{Right, Down, Here}
use Rattle.bl_proc_routes.specs.Routes.{Leads}
use Rattle.bl_proc_routes.specs.WordEdits.{words_by}
use Rattle.bl_proc.specs.declared.kinds.Proc.{Proc}
use Rattle.bl_proc_writes.specs.declared.post.PostStage.{PostStage}
use Rattle.bl_proc_writes.specs.declared.post.PostStage.TheVariants as post
use Rattle.bl_proc_writes.specs.declared.post.PostReply.{PostReply}
use Rattle.bl_proc_writes.specs.declared.post.PostReply.TheVariants as reply
use Rattle.bl_proc_writes.specs.declared.walking.Walk.{Walk}
use Rattle.bl_proc_writes.specs.Levels.{IsBelowTop, IsBelowTop-prop, MayReply}
use Rattle.bl_proc_writes.specs.Posts.{post_reply, IsLost, PostGoes, PostWalks}
use Rattle.bl_proc.specs.Processes.{Takes}
use Rattle.bl_proc_writes.proofs.Named.{listed-child}
use Rattle.bl_proc_deterministic.proofs.Edits.{enter_one}
use Rattle.bl_proc_deterministic.proofs.Onwards.{right_small}
use Rattle.bl_proc_deterministic.proofs.Pages.{fits_some, rising}
use Rattle.atomic_table.specs.declared.shared.Seat.{Seat}
use Rattle.bl_store.specs.declared.store.Hand.{Hand}
use Rattle.bl_store_rule.specs.declared.view.View.{View}
use Rattle.bl_store.specs.Hands.{known, IsSameHand, IsSameRefusal}
use Rattle.bl_index_rule.specs.declared.known.PassState.{PassState}
use Rattle.bl_proc_writes.specs.Stands.{IsPosting}
use Rattle.bl_index_edit.specs.Events.{HasOpenedParent, IsToEnter, IsWalking, LeavesParent, WalksOn, WalksStill}
use Rattle.bl_index_edit.specs.Posters.{IsPoster, Opened, Staged}
use Rattle.bl_index_events.specs.Held.{KeepsLatch}
use Rattle.bl_index_events.specs.Rooms.{LacksPost}
use Rattle.bl_index_events.specs.Runs.{IsSameProcess, OpensTo, Runs}
use Rattle.bl_index_events.specs.declared.tree.Tree.{Tree}
use Rattle.bl_index_events.proofs.Held.{keeps_anchor}
use Rattle.bl_index_events.proofs.Rooms.{lacks_on, refused_on}
use Rattle.bl_index_events.proofs.Standing.{same_all}
use Rattle.bl_proc_deterministic.proofs.Spelling.{spelled}

-- a change by which a pair enters, by whether there is room
module _ (x key word : ℕ) (words : List ℕ) (c : Edit) (enter : IsToEnter x key word words c) where
  pub enters_putting : length (pairs_of enter.page) < 14 → (p : Page) × (words_of p ≡ words_by enter.page (entered key word (pairs_of enter.page))) × (c ≡ edit.Putting x p)
  enters_putting room =
      let page = enter.page in
      let fits = fits_some page key word 0 enter.covers enter.absent enter.fits room in
      let words = spelled page fits.0 (entered key word (pairs_of page)) fits.1.1 (RisesFrom-entered key word 0 (pairs_of page) (omega arith) enter.absent (rising page)) (λ j. fits.1.2 j ∙ sym (map_of-entered key word (pairs_of page) enter.absent j)) in
      let one = enter_one x page key word enter.covers enter.absent enter.fits in
      (fits.0, words, one.only c enter.enters ∙ sym (one.only (edit.Putting x fits.0) (refl, fits.1)))

  pub enters_taking : 14 ≤ length (pairs_of enter.page) → (f : Full) × (f.at ≡ x) × (f.key ≡ key) × (f.word ≡ word) × (words ≡ words_of f.page) × (c ≡ edit.Taking f)
  enters_taking full =
      let f : Full = record { at = x; key = key; word = word; page = enter.page; covers = enter.covers; absent = enter.absent; fits = enter.fits; full = full } in
      let one = enter_one x enter.page key word enter.covers enter.absent enter.fits in
      (f, refl, refl, refl, enter.is, one.only c enter.enters ∙ sym (one.only (edit.Taking f) (refl, refl, refl, refl)))

nonzero : (z : ℕ) → z ≢ 0 → 0 < z
nonzero zero some = absurd (some refl)
nonzero (suc z) some = omega arith

module _ (level key : ℕ) (staged : Staged level) (opened : Opened level) (poster : IsPoster level key staged opened) where
  -- where a post stands that has got its parent
  pub stands_already : (x : ℕ) (c : Page) (state : Proc) → Takes (staged (post.Coming (approach.Latched x)) tt tt) (seen.Words c) state → Leads c key level Here → (child : ℕ) → Some child ≡ (node_of c).look key → state ≡ staged (post.Staying x reply.Already) tt tt
  stands_already x (page.Anchor a) state takes leads child e = absurd leads.0
  stands_already x (page.Leaf l) state takes leads child e = absurd (let is = leads.2 in let least = poster.least in omega arith)
  stands_already x (page.Dead d) state takes leads child e = absurd leads.0
  stands_already x (page.Inner i) state takes leads child e =
      let from = post.Coming (approach.Latched x) in let to = post.Staying x reply.Already in let what = seen.Words (page.Inner i) in
      let course = poster.courses from tt tt what tt tt in
      course.only state takes ∙ sym (course.only (staged to tt tt) (poster.goes from to tt tt tt tt what tt (descend.ToParent x i, (refl, refl, leads), (refl, (child, sym e)))))

  pub stands_walking : (x child : ℕ) (c : Page) (words : List ℕ) (state : Proc) → Takes (staged (post.Coming (approach.Latched x)) tt tt) (seen.Words c) state → words ≡ words_of c → Leads c key level Here → None ≡ (node_of c).look key → Leads c key (level - 1) (Down child) → IsWalking level key staged x words child state
  stands_walking x child (page.Anchor a) words state takes is leads none down = absurd leads.0
  stands_walking x child (page.Leaf l) words state takes is leads none down = absurd (let e = leads.2 in let least = poster.least in omega arith)
  stands_walking x child (page.Dead d) words state takes is leads none down = absurd leads.0
  stands_walking x child (page.Inner i) words state takes is leads none down =
      let w : Walk = record { at = x; key = key; parent = i; child = child; covers = leads.1; unlisted = sym none; names = listed-child down.3.key child i.children.items i.pages down.3.listed } in
      let below : level < 12 = (let e = leads.2 in let limit = i.below_limit in omega arith) in
      let from = post.Coming (approach.Latched x) in let to = post.Walking w in let what = seen.Words (page.Inner i) in
      let course = poster.courses from tt tt what tt tt in
      record {
        walk = w;
        below = below;
        is = course.only state takes ∙ sym (course.only (staged to below tt) (poster.goes from to tt below tt tt what tt (descend.ToParent x i, (refl, refl, leads), (refl, refl, refl, down.3))));
        at = refl;
        named = refl;
        parent = is;
        child = refl;
      }

  -- it does not matter why a post may be at its stage
  pub staged_same : (stage : PostStage) (a b : IsBelowTop level stage) (i : IsPosting stage) → staged stage a i ≡ staged stage b i
  staged_same stage a b i = ap (λ z. staged stage z i) (IsBelowTop-prop level stage a b)

  -- it opens its parent
  pub opens_staying : (x : ℕ) (r : PostReply) (may : MayReply level r) (state : Proc) → state ≡ staged (post.Staying x r) may tt → OpensTo state x (opened r may)
  opens_staying x r may state is = subst (λ (z : Proc). OpensTo z x (opened r may)) (sym is) (record {
    act = poster.acts (post.Staying x r) may tt tt;
    course = poster.courses (post.Staying x r) may tt seen.Done tt tt;
    opened = poster.stayed x r may;
  })

  pub may_reply : (o : Outcome) → level < 12 → MayReply level (post_reply o)
  may_reply outcome.Edited below = tt
  may_reply (outcome.SplitAt separator) below = below
  may_reply outcome.Refused below = tt

  pub opens_listed : (x : ℕ) (o : Outcome) (below : level < 12) (state : Proc) → state ≡ staged (post.Editing (edit.Opening x o)) below tt → OpensTo state x (opened (post_reply o) (may_reply o below))
  opens_listed x o below state is = subst (λ (z : Proc). OpensTo z x (opened (post_reply o) (may_reply o below))) (sym is) (record {
    act = poster.acts (post.Editing (edit.Opening x o)) below tt tt;
    course = poster.courses (post.Editing (edit.Opening x o)) below tt seen.Done tt tt;
    opened = poster.listed x o below (may_reply o below);
  })

  -- it opens its parent, and begins again
  pub opens_lost : (x : ℕ) (state : Proc) → state ≡ staged (post.Coming (approach.Leaving x None)) tt tt → OpensTo state x (staged (post.Coming approach.Start) tt tt)
  opens_lost x state is =
      let from = post.Coming (approach.Leaving x None) in
      subst (λ (z : Proc). OpensTo z x (staged (post.Coming approach.Start) tt tt)) (sym is) (record {
        act = poster.acts from tt tt tt;
        course = poster.courses from tt tt seen.Done tt tt;
        opened = poster.goes from (post.Coming approach.Start) tt tt tt tt seen.Done tt (descend.On approach.Start, (tt, refl), refl);
      })

  -- where a post stands that has got a page on its walk
  module _ (x y : ℕ) (words : List ℕ) (state next : Proc) (c : Page) (w : IsWalking level key staged x words y state) (takes : Takes state (seen.Words c) next) where
    walks : (stage : PostStage) (below : IsBelowTop level stage) (i : IsPosting stage) → PostWalks level w.walk c stage → PostGoes level key (post.Walking w.walk) (seen.Words c) stage → next ≡ staged stage below i
    walks stage below i it goes =
        let course = poster.courses (post.Walking w.walk) w.below tt (seen.Words c) tt tt in
        course.only next (subst (λ (z : Proc). Takes z (seen.Words c) next) w.is takes) ∙ sym (course.only (staged stage below i) (poster.goes (post.Walking w.walk) stage w.below below tt i (seen.Words c) tt goes))

    leading : (o : Step) → Leads c key (level - 1) o → Leads c w.walk.key (level - 1) o
    leading o leads = subst (λ (z : ℕ). Leads c z (level - 1) o) (sym w.named) leads

    pub walked_on : (z : ℕ) → z ≢ 0 → Leads c key (level - 1) (Right z) → IsWalking level key staged x words z next
    walked_on z some leads =
        let walk = w.walk in
        let small = right_small c key (level - 1) z leads in
        let least : 0 < z = nonzero z some in
        let v : Walk = record { at = walk.at; key = walk.key; parent = walk.parent; child = z; covers = walk.covers; unlisted = walk.unlisted; names = (least, small) } in
        let it : PostWalks level walk c (post.Walking v) = (refl, refl, refl, leading (Right z) leads) in
        record { walk = v; below = w.below; is = walks (post.Walking v) w.below tt it it; at = w.at; named = w.named; parent = w.parent; child = refl }

    pub walked_found : Leads c key (level - 1) Here → (node_of c).shape.low ≡ key → (d : Edit) × IsToEnter x key y words d × (next ≡ staged (post.Editing d) w.below tt)
    walked_found leads low =
        let walk = w.walk in
        let one = enter_one walk.at (page.Inner walk.parent) walk.key walk.child walk.covers walk.unlisted walk.names in
        let enter : IsToEnter walk.at walk.key walk.child words one.new = record { page = page.Inner walk.parent; tree = tt; is = w.parent; covers = walk.covers; absent = walk.unlisted; fits = walk.names; enters = one.goes } in
        let it : PostWalks level walk c (post.Editing one.new) = (leading Here leads, low ∙ sym w.named, one.goes) in
        (one.new, subst (λ (z : ℕ × ℕ × ℕ). IsToEnter z.0 z.1 z.2 words one.new) (λ i. (w.at i, w.named i, w.child i)) enter, walks (post.Editing one.new) w.below tt it it)

    pub walked_stale : Leads c key (level - 1) Here → (node_of c).shape.low ≢ key → next ≡ staged (post.Staying x reply.Stale) tt tt
    walked_stale leads other =
        let it : PostWalks level w.walk c (post.Staying x reply.Stale) = (sym w.at, leading Here leads, λ e. other (e ∙ w.named)) in
        walks (post.Staying x reply.Stale) tt tt it it

    pub walked_lost : (o : Step) → Leads c key (level - 1) o → IsLost o → next ≡ staged (post.Coming (approach.Leaving x None)) tt tt
    walked_lost o leads lost =
        let it : PostWalks level w.walk c (post.Coming (approach.Leaving x None)) = (λ i. approach.Leaving (sym w.at i) None, (o, leading o leads, lost)) in
        walks (post.Coming (approach.Leaving x None)) tt tt it it

abbrev H : Type 0
H = Seat (Unit {0}) (View PassState)

-- what it has come to from an earlier state of its pass on
pub leaves_since : (tree : Tree) (h k : H) (hand : Hand PassState) (level key : ℕ) (staged : Staged level) (opened : Opened level) (replies : Option PostReply) → IsSameHand h k → IsSameProcess (known h) (known k) → LeavesParent tree k hand level key staged opened replies → LeavesParent tree h hand level key staged opened replies
leaves_since tree h k hand level key staged opened replies same since left = record {
  same = (left.same.0 ∙ same.0, left.same.1 ∙ same.1, left.same.2 ∙ same.2);
  empty = left.empty;
  state = left.state;
  runs = left.runs;
  is = left.is;
  since = same_all _ _ _ since left.since;
  no_room = left.no_room;
}

-- it lacks what it lacked
pub lacks_post_same : (level key : ℕ) (h h' : H) → IsSameRefusal h h' → KeepsLatch (known h) (known h') → LacksPost level key h → LacksPost level key h'
lacks_post_same level key h h' same latch (inl lacks) = inl (lacks_on level key h h' same latch lacks)
lacks_post_same level key h h' same latch (inr lacks) = inr (refused_on h h' 1 2 same lacks.0, keeps_anchor level (known h) (known h') latch lacks.1)

pub some_same : {a b : PostReply} → Some a ≡ Some b → a ≡ b
some_same e = cc

-- what it runs then
pub leaves_opened : (tree : Tree) (h : H) (hand : Hand PassState) (level key : ℕ) (staged : Staged level) (opened : Opened level) (replies : Option PostReply) (r : PostReply) → LeavesParent tree h hand level key staged opened replies → replies ≡ Some r → (may : MayReply level r) × Runs tree hand (opened r may)
leaves_opened tree h hand level key staged opened replies r left e =
    let is = subst (λ (z : Option PostReply). HasOpenedParent level staged opened z left.state) e left.is in
    (is.0, subst (λ (z : Proc). Runs tree hand z) is.1 left.runs)

pub leaves_again : (tree : Tree) (h : H) (hand : Hand PassState) (level key : ℕ) (staged : Staged level) (opened : Opened level) (replies : Option PostReply) → LeavesParent tree h hand level key staged opened replies → replies ≡ None → Runs tree hand (staged (post.Coming approach.Start) tt tt)
leaves_again tree h hand level key staged opened replies left e = subst (λ (z : Proc). Runs tree hand z) (subst (λ (z : Option PostReply). HasOpenedParent level staged opened z left.state) e left.is) left.runs

-- It is on its walk still.
pub walks_still : (tree : Tree) (h : Seat (Unit {0}) (View PassState)) (hand : Hand PassState) (level key : ℕ) (staged : Staged level) (x : ℕ) (words : List ℕ) (y : ℕ) → WalksOn tree h hand level key staged x words y → WalksStill tree h hand level staged x
walks_still tree h hand level key staged x words y on = record {
  walk = on.walking.walk;
  at = on.walking.at;
  same = on.same;
  empty = on.empty;
  below = on.walking.below;
  runs = subst (λ (z : Proc). Runs tree hand z) on.walking.is on.runs;
  since = on.since;
}
