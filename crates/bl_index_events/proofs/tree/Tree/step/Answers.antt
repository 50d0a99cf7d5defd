use Rattle.std.proofs.Common.{◌≡◌, refl, sym, ◌∙◌}
use Rattle.bl_proc_steps.specs.declared.acts.Action.TheVariants as act
use Rattle.bl_proc_steps.specs.declared.acts.Seen.TheVariants as seen
use Rattle.bl_index_events.proofs.Reserved.{gives_up, has_none, stays_reserved}
use Rattle.bl_index_events.proofs.Rooms.{tells_words}
use Rattle.bl_index_events.proofs.tree.Tree.step.Goals as goal

pub next-requires : goal.next-requires
next-requires g c = c.requires.going.0

pub read-requires-clause-runs : goal.read-requires-clause-runs
read-requires-clause-runs g c = c.requires.runs

pub read-requires-clause-next : goal.read-requires-clause-next
read-requires-clause-next g c = (c.requires.going.0, sym c.next.ensures ∙ c.in-Get.is)

pub latch-requires-clause-runs : goal.latch-requires-clause-runs
latch-requires-clause-runs g c = c.requires.runs

pub latch-requires-clause-next : goal.latch-requires-clause-next
latch-requires-clause-next g c = (c.requires.going.0, sym c.next.ensures ∙ c.in-Latch.is)

pub open_page-requires-clause-runs : goal.open_page-requires-clause-runs
open_page-requires-clause-runs g c = c.requires.runs

pub open_page-requires-clause-next : goal.open_page-requires-clause-next
open_page-requires-clause-next g c = (c.requires.going.0, sym c.next.ensures ∙ c.in-Open.is)

pub put-requires-clause-runs : goal.put-requires-clause-runs
put-requires-clause-runs g c = c.requires.runs

pub put-requires-clause-next : goal.put-requires-clause-next
put-requires-clause-next g c = (c.requires.going.0, sym c.next.ensures ∙ c.in-Put.is)

pub take-requires-clause-runs : goal.take-requires-clause-runs
take-requires-clause-runs g c = c.requires.runs

pub take-requires-clause-next : goal.take-requires-clause-next
take-requires-clause-next g c = (c.requires.going.0, sym c.next.ensures ∙ c.in-Take.is)

pub retire_page-requires-clause-runs : goal.retire_page-requires-clause-runs
retire_page-requires-clause-runs g c = c.requires.runs

pub retire_page-requires-clause-next : goal.retire_page-requires-clause-next
retire_page-requires-clause-next g c = (c.requires.going.0, sym c.next.ensures ∙ c.in-Retire.is)

pub put-requires-clause-stock : goal.put-requires-clause-stock
put-requires-clause-stock g c = c.requires.stock

pub returns-in-Get-clause-same : goal.returns-in-Get-clause-same
returns-in-Get-clause-same g c = (c.read.ensures.same.0, c.read.ensures.same.1)

pub returns-in-Latch-clause-same : goal.returns-in-Latch-clause-same
returns-in-Latch-clause-same g c = c.latch.ensures.same

pub returns-in-Open-clause-same : goal.returns-in-Open-clause-same
returns-in-Open-clause-same g c = c.open_page.ensures.same

pub returns-in-Put-clause-same : goal.returns-in-Put-clause-same
returns-in-Put-clause-same g c = c.put.ensures.same

pub returns-in-Take-clause-same : goal.returns-in-Take-clause-same
returns-in-Take-clause-same g c = c.take.ensures.same

pub returns-in-Retire-clause-same : goal.returns-in-Retire-clause-same
returns-in-Retire-clause-same g c = c.retire_page.ensures.same

pub returns-in-Get-clause-after : goal.returns-in-Get-clause-after
returns-in-Get-clause-after g c =
    let laws = g.met.P.Kind in let p = g.P.Kind.proc_of c.args.process.now in let q = g.P.Kind.proc_of c.read.new.process in
    let t = c.read.ensures.takes in let follows = laws.follows c.args.process.now c.read.new.process (seen.Words t.0) t.1 in
    let next = laws.acts c.args.process.now ∙ (sym c.next.ensures ∙ c.in-Get.is) in (
      c.read.ensures.runs.on,
      c.read.ensures.moves,
      stays_reserved p q (seen.Words t.0) (act.Get c.in-Get.page) next tt follows.frames (laws.retires c.args.process.now c.read.new.process (seen.Words t.0) t.1) c.args.hand.now.seat c.read.new.hand.seat c.args.held (g.P.Kind.wants c.args.process.now) c.read.ensures.same.0.1 c.read.ensures.same.2 c.requires.stock,
      ((seen.Words t.0), follows, laws.goes c.args.process.now c.read.new.process (seen.Words t.0) t.1, tells_words c.args.hand.now.seat c.read.new.hand.seat p c.in-Get.page t.0 next),
      λ e. (let f : act.Get c.in-Get.page ≡ act.End = sym next ∙ e in cc),
    )

pub returns-in-Latch-clause-after : goal.returns-in-Latch-clause-after
returns-in-Latch-clause-after g c =
    let laws = g.met.P.Kind in let p = g.P.Kind.proc_of c.args.process.now in let q = g.P.Kind.proc_of c.latch.new.process in
    let t = c.latch.ensures.takes in let follows = laws.follows c.args.process.now c.latch.new.process t.0 t.1 in
    let next = laws.acts c.args.process.now ∙ (sym c.next.ensures ∙ c.in-Latch.is) in (
      c.latch.ensures.runs.on,
      c.latch.ensures.moves,
      stays_reserved p q t.0 (act.Latch c.in-Latch.page) next tt follows.frames (laws.retires c.args.process.now c.latch.new.process t.0 t.1) c.args.hand.now.seat c.latch.new.hand.seat c.args.held (g.P.Kind.wants c.args.process.now) c.latch.ensures.same.0.1 c.latch.ensures.stock c.requires.stock,
      (t.0, follows, laws.goes c.args.process.now c.latch.new.process t.0 t.1, t.2),
      λ e. (let f : act.Latch c.in-Latch.page ≡ act.End = sym next ∙ e in cc),
    )

pub returns-in-Open-clause-after : goal.returns-in-Open-clause-after
returns-in-Open-clause-after g c =
    let laws = g.met.P.Kind in let p = g.P.Kind.proc_of c.args.process.now in let q = g.P.Kind.proc_of c.open_page.new.process in
    let t = c.open_page.ensures.takes in let follows = laws.follows c.args.process.now c.open_page.new.process t.0 t.1 in
    let next = laws.acts c.args.process.now ∙ (sym c.next.ensures ∙ c.in-Open.is) in (
      c.open_page.ensures.runs.on,
      c.open_page.ensures.moves,
      stays_reserved p q t.0 (act.Open c.in-Open.page) next tt follows.frames (laws.retires c.args.process.now c.open_page.new.process t.0 t.1) c.args.hand.now.seat c.open_page.new.hand.seat c.args.held (g.P.Kind.wants c.args.process.now) c.open_page.ensures.same.0.1 c.open_page.ensures.stock c.requires.stock,
      (t.0, follows, laws.goes c.args.process.now c.open_page.new.process t.0 t.1, t.2),
      λ e. (let f : act.Open c.in-Open.page ≡ act.End = sym next ∙ e in cc),
    )

pub returns-in-Put-clause-after : goal.returns-in-Put-clause-after
returns-in-Put-clause-after g c =
    let laws = g.met.P.Kind in let p = g.P.Kind.proc_of c.args.process.now in let q = g.P.Kind.proc_of c.put.new.process in
    let t = c.put.ensures.takes in let follows = laws.follows c.args.process.now c.put.new.process t.0 t.1 in
    let next = laws.acts c.args.process.now ∙ (sym c.next.ensures ∙ c.in-Put.is) in (
      c.put.ensures.runs.on,
      c.put.ensures.moves,
      c.put.ensures.stock,
      (t.0, follows, laws.goes c.args.process.now c.put.new.process t.0 t.1, t.2),
      λ e. (let f : act.Put c.in-Put.page c.in-Put.contents ≡ act.End = sym next ∙ e in cc),
    )

pub returns-in-Take-clause-after : goal.returns-in-Take-clause-after
returns-in-Take-clause-after g c =
    let laws = g.met.P.Kind in let p = g.P.Kind.proc_of c.args.process.now in let q = g.P.Kind.proc_of c.take.new.process in
    let t = c.take.ensures.takes in let follows = laws.follows c.args.process.now c.take.new.process t.0 t.1 in
    let next = laws.acts c.args.process.now ∙ (sym c.next.ensures ∙ c.in-Take.is) in (
      c.take.ensures.runs.on,
      c.take.ensures.moves,
      c.take.ensures.stock,
      (t.0, follows, laws.goes c.args.process.now c.take.new.process t.0 t.1, t.2),
      λ e. (let f : act.Take ≡ act.End = sym next ∙ e in cc),
    )

pub returns-in-Retire-clause-after : goal.returns-in-Retire-clause-after
returns-in-Retire-clause-after g c =
    let laws = g.met.P.Kind in let p = g.P.Kind.proc_of c.args.process.now in let q = g.P.Kind.proc_of c.retire_page.new.process in
    let t = c.retire_page.ensures.takes in let follows = laws.follows c.args.process.now c.retire_page.new.process t.0 t.1 in
    let next = laws.acts c.args.process.now ∙ (sym c.next.ensures ∙ c.in-Retire.is) in (
      c.retire_page.ensures.runs.on,
      c.retire_page.ensures.moves,
      gives_up p q t.0 (act.Retire c.in-Retire.page) next tt follows.frames (laws.retires c.args.process.now c.retire_page.new.process t.0 t.1) c.retire_page.new.hand.seat c.retire_page.ensures.stock,
      (t.0, follows, laws.goes c.args.process.now c.retire_page.new.process t.0 t.1, t.2),
      λ e. (let f : act.Retire c.in-Retire.page ≡ act.End = sym next ∙ e in cc),
    )

pub returns-in-End-clause-after : goal.returns-in-End-clause-after
returns-in-End-clause-after g c =
    let laws = g.met.P.Kind in
    let next = laws.acts c.args.process.now ∙ (sym c.next.ensures ∙ c.in-End.is) in
    (next, refl, refl, has_none c.args.hand.now.seat c.args.held (g.P.Kind.proc_of c.args.process.now) act.End next tt (g.P.Kind.wants c.args.process.now) c.requires.stock, (refl, (refl, refl, refl)))
