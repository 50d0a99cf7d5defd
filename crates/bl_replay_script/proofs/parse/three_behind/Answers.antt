use Rattle.std.proofs.Common.{sym, ◌∙◌}
use Rattle.std.proofs.lemmas.List.{append_cancel_left}
use Rattle.bl_replay_script.specs.Commands.{three}
use Rattle.bl_replay_script.proofs.parse.three_behind.Goals as goal

pub returns-in_default-three_numbers : goal.returns-in_default-three_numbers
returns-in_default-three_numbers c = λ a b d small_a small_b small_d e. c.in_default-three_numbers.ensures.none a b d small_a small_b small_d
    (append_cancel_left c.args.word.now c.in-Some.rest.now (three a b d) (sym c.in-Some.ensures ∙ e))
