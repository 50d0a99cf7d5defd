use Rattle.std.proofs.Common.{Some, ap, ◌∙◌}
use Rattle.bl_proc_compress.specs.declared.compress.CompressStage.TheVariants as stages
use Rattle.bl_proc_deterministic.specs.Frames.{op_of, work_of}
use Rattle.bl_index_events.proofs.Rooms.{refused_on}
use Rattle.bl_index_compress.specs.CompressStands.{compress_of}
use Rattle.bl_index_compress.proofs.CompressionCourses.{ends_compression}
use Rattle.bl_index_compress.proofs.compressing.end_compression.Goals as goal

pub conclude-requires-clause-ends : goal.conclude-requires-clause-ends
conclude-requires-clause-ends c = (_, ends_compression c.args.target c.requires.process.0 _ c.requires.process.2.on.state)

pub returns-clause-over : goal.returns-clause-over
returns-clause-over c =
    let j = c.args.target in let t = c.requires.process in let is = t.2.on.state in
    record {
      rests = c.conclude.ensures.rests;
      empty = c.conclude.ensures.same.1.0 ∙ c.requires.empty;
      no_room = λ none. refused_on c.args.hand.now.seat c.conclude.new.hand.seat 0 3 c.conclude.ensures.refusal (c.requires.no_room none);
      is_compressed = λ pass old since. record {
        last = record { level = j.level; key = j.key; waits = j.waits; stage = stages.Over t.0; least = j.least; most = j.most };
        done = c.conclude.ensures.done pass old (compress_of j stages.New) _ since (ends_compression j t.0 _ is) (ap op_of is) (ap work_of is);
        answer = ap Some t.1;
      };
    }
