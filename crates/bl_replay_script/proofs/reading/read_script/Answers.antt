use Rattle.std.proofs.Common.{◌≡◌, ◌+◌, [], ◌∷◌, ◌++◌, length, refl, ap, sym, subst, append-nil, length-append, arith}
use Rattle.bl_serve_lines.proofs.Known.{consumes_next, consumes_line}
use Rattle.bl_replay_script.specs.Commands.{head_text, command_text, started_by}
use Rattle.bl_replay_script.specs.Scripts.{IsScript}
use Rattle.bl_replay_script.proofs.Steps.{script_head, script_more, started_more, head_consumed, first_bad, later_bad}
use Rattle.bl_replay_script.proofs.reading.read_script.Goals as goal

pub returns-in-Ok-None : goal.returns-in-Ok-None
returns-in-Ok-None g c = let e = rw c.in-Ok-None.field-0-is at c.in-Ok-None.ensures in
    (e.0, e.1, first_bad c.args.kinds c.in_ok-source.source e.0 _ c.in_ok-source.ensures e.2)

pub loop-number-init : goal.loop-number-init
loop-number-init g c = let e = rw c.in-Ok-Some.field-0-is at c.in-Ok-Some.ensures in let none = sym c.new-commands.ensures.items in record {
  good = head_text c.in-Ok-Some.pages ++ 10 ∷ [];
  consumed = head_consumed _ _ c.in_ok-source.source e.0 (head_text c.in-Ok-Some.pages) c.read_head.new.source c.in_ok-source.ensures e.1 e.2.1;
  script = subst (λ t. IsScript c.args.kinds c.in-Ok-Some.pages t (head_text c.in-Ok-Some.pages ++ 10 ∷ [])) none (script_head c.args.kinds c.in-Ok-Some.pages e.2.0);
  started = subst (λ t. 0 ≡ started_by t) none refl;
  few = omega arith;
  number = subst (λ t. 2 ≡ length t + 2) none refl;
}

pub returns-in-Ok-End : goal.returns-in-Ok-End
returns-in-Ok-End g c = let i = c.loop-number.invariant in let e = rw c.in-Ok-End.field-0-is at c.in-Ok-End.ensures in
    (i.good ++ [], consumes_next _ _ _ i.good c.loop-number.source e.0 [] i.consumed e.1 e.2.0, (subst (IsScript _ _ _) (sym (append-nil i.good)) i.script, e.2.2))

pub returns-in-Ok-Bad : goal.returns-in-Ok-Bad
returns-in-Ok-Bad g c = let i = c.loop-number.invariant in let e = rw c.in-Ok-Bad.field-0-is at c.in-Ok-Bad.ensures in (
  i.good ++ (c.loop-number.source ++ e.0),
  consumes_next _ _ _ i.good c.loop-number.source e.0 _ i.consumed e.1 refl,
  later_bad c.args.kinds c.in-Ok-Some.pages c.loop-number.started c.loop-number.number c.loop-number.commands.items i.good _ _ i.script i.started i.number e.2,
)

pub returns-in-Err-read_command : goal.returns-in-Err-read_command
returns-in-Err-read_command g c = let i = c.loop-number.invariant in let e = c.in-Err-read_command.ensures in
    (i.good ++ (c.loop-number.source ++ e.0), consumes_next _ _ _ i.good c.loop-number.source e.0 _ i.consumed e.1 refl, e.2)

pub returns-in-Err-add : goal.returns-in-Err-add
returns-in-Err-add g c = let i = c.loop-number.invariant in let e = rw c.in-Ok-Command.field-0-is at c.in-Ok-Command.ensures in
    (i.good ++ (c.loop-number.source ++ e.0), consumes_next _ _ _ i.good c.loop-number.source e.0 _ i.consumed e.1 refl, tt)

pub loop-number-preserved : goal.loop-number-preserved
loop-number-preserved g c = let i = c.loop-number.invariant in let e = rw c.in-Ok-Command.field-0-is at c.in-Ok-Command.ensures in
    let command = c.in-Ok-Command.command in
    let old = c.loop-number.commands.items in
    let items : c.add.new.commands.items ≡ old ++ command ∷ [] = c.in-Ok.ensures in
    let more = started_more old command in
    let size = length-append old (command ∷ []) in
    record {
      good = i.good ++ (command_text command ++ 10 ∷ []);
      consumed = consumes_line _ _ _ i.good c.loop-number.source e.0 (command_text command) c.read_command.new.source i.consumed e.1 e.2.1;
      script = subst (λ t. IsScript c.args.kinds c.in-Ok-Some.pages t (i.good ++ (command_text command ++ 10 ∷ []))) (sym items) (script_more c.args.kinds c.in-Ok-Some.pages c.loop-number.started old command i.good i.script i.started e.2.0);
      started = omega (arith, more, i.started, c.processes_in-started.ensures.number, ap started_by items);
      few = omega (arith, i.few, c.processes_in-started.ensures.one);
      number = omega (arith, i.number, size, ap length items);
    }
