use Rattle.std.proofs.Common.{◌++◌, refl}
use Rattle.bl_replay.specs.Texts.{event_line}
use Rattle.bl_replay.specs.Pages.{put_text}
use Rattle.bl_replay.specs.Plays.{new_answer}
use Rattle.bl_replay.proofs.Puts.{puts_there, three}
use Rattle.bl_replay.proofs.turning.print_turn.Goals as goal

pub push_put-requires : goal.push_put-requires
push_put-requires c = puts_there c.args.world.now c.take_turn.new.world c.args.turn c.in_ok-event.event c.has_what_is_put.ensures c.in_ok-event.ensures.turned c.in_ok-event.ensures.event

pub returns-clause-ok : goal.returns-clause-ok
returns-clause-ok c =
    let e = c.in_ok-event.event in
    let pages = c.take_turn.new.world.pages in
    let line = event_line e in
    let put = put_text c.args.with_pages e pages in
    let answer = new_answer c.args.number c.answer_of-before.result c.answer_of-after.result in (
      line ++ put ++ answer,
      record {
        turned = c.in_ok-event.ensures.turned;
        event = e;
        recorded = c.in_ok-event.ensures.event;
        before = c.answer_of-before.result;
        had = c.answer_of-before.ensures;
        after = c.answer_of-after.result;
        has = c.answer_of-after.ensures;
        there = puts_there c.args.world.now c.take_turn.new.world c.args.turn e c.has_what_is_put.ensures c.in_ok-event.ensures.turned c.in_ok-event.ensures.event;
        printed = refl;
      },
      three c.args.out.now.items c.push_event.new.out.items c.push_put.new.out.items c.push_new.new.out.items line put answer c.in_ok-push_event.ensures c.in_ok-push_put.ensures c.in_ok-push_new.ensures,
    )
