-- What a search or a part tells its caller that has ended at its leaf.
use Rattle.std.proofs.Common.{ℕ, ◌≡◌, ◌+◌, Option, None, Some, [], refl, sym, subst, ap}
use Rattle.atomic_table.specs.declared.shared.Seat.{Seat}
use Rattle.bl_layout.specs.declared.layout.Layout.{Layout}
use Rattle.bl_model.specs.declared.operation.Op.{Op as Operation}
use Rattle.bl_model.specs.declared.operation.Op.TheVariants as op
use Rattle.bl_model.specs.declared.operation.Reply.{Reply}
use Rattle.bl_model.specs.declared.operation.Reply.TheVariants as reply
use Rattle.bl_page.specs.declared.page.Page.{Page}
use Rattle.bl_page.specs.Nodes.{node_of}
use Rattle.bl_proc_steps.specs.declared.acts.Seen.TheVariants as seen
use Rattle.bl_answers.specs.declared.answers.Answer.{Answer}
use Rattle.bl_answers.specs.declared.answers.Answer.TheVariants.{Op}
use Rattle.bl_proc.specs.declared.kinds.Proc.{Proc}
use Rattle.bl_proc.specs.declared.parts.Direction.{Direction}
use Rattle.bl_proc.specs.declared.parts.PartRows.{PartRows}
use Rattle.bl_proc.specs.declared.parts.PartStage.TheVariants as part
use Rattle.bl_proc.specs.declared.searching.FindStage.TheVariants as find
use Rattle.bl_proc.specs.Parts.{op_toward}
use Rattle.bl_proc.specs.Processes.{answer_of, Takes}
use Rattle.bl_proc.specs.Searches.{found_answer}
use Rattle.bl_proc_bounds.specs.Latches.{IsTidy}
use Rattle.bl_proc_invariant.specs.Knowing.{found_reply}
use Rattle.bl_proc_invariant.specs.Logs.{proc_log}
use Rattle.bl_proc_invariant.proofs.Looking.{only_looks}
use Rattle.bl_proc_deterministic.specs.Frames.{op_of}
use Rattle.bl_claims.specs.Latches.{LatchesNone}
use Rattle.bl_claims.specs.Meanings.{writes_of}
use Rattle.bl_claims.specs.Trails.{Trail}
use Rattle.bl_store.specs.declared.store.Glance.{Glance}
use Rattle.bl_store_rule.specs.declared.view.View.{View}
use Rattle.bl_store.specs.Hands.{known}
use Rattle.bl_index_rule.specs.declared.known.PassState.{PassState}
use Rattle.bl_index_rule.specs.Observed.{ends}
use Rattle.bl_index_events.proofs.Ends.{op_answered}
use Rattle.bl_index_events.proofs.Standing.{is_over}
use Rattle.bl_index_read.specs.declared.sought.Sought.{Sought}
use Rattle.bl_index_read.specs.declared.sought.Sought.TheVariants.{Value, Rows}
use Rattle.bl_index_read.specs.LeafWays.{searching, listing, EndsWith, HasLeaf}
use Rattle.bl_index_read.specs.Searching.{Finds}
use Rattle.bl_index_read.proofs.Paces.{at_answer}
use Rattle.bl_index_read.proofs.Ways.{is_to_end, ending_course}

-- the process that is to end so has that for its last state, and answers this
record Answered (state : Proc) (o : Operation) (said : Reply) : Type 0 where
  last : Proc
  takes : Takes state seen.Done last
  op : op_of state ≡ Some o
  answer : answer_of last ≡ Some (Op said None)
  log : (marks : Trail) → proc_log last marks → writes_of marks ≡ []
  tidy : (marks : Trail) → IsTidy last marks → LatchesNone marks

module _ (l : Layout) (pass : ℕ) (s : Sought) (key turns : ℕ) (old : PassState) (h : Seat (Unit {0}) (View PassState)) (e : PassState) (glance : Glance) (has : HasLeaf l pass s key turns old h glance) (ended : ends (known h) 0 e) where
  finds : (o : Operation) (said : Reply) → Answered (known h).state o said → Finds old.first l.pages pass turns o said old.trail e.trail
  finds o said a =
      let leaf = has.leaf in
      let done = is_over pass old (known h) e (known h).state a.last has.since (record { at_end = is_to_end s key leaf.page _ leaf.ends; over = ending_course s key leaf.page _ leaf.ends; ended = a.takes }) ended refl refl in
      let within = at_answer l.pages pass (old.number + 1) turns _ (known h) e has.since.named has.since.number has.last ended.0 in
      record {
        answers = op_answered old.first pass old e (known h).state a.last o said None done refl a.op a.answer;
        few = within.1;
        bounded = within.0;
        looks = only_looks _ (a.tidy _ done.tidy) (a.log _ done.log);
      }

-- ---- a search

found_is : (value : Option ℕ) → found_answer value ≡ Op (found_reply value) None
found_is (Some v) = refl
found_is None = refl

find_answered : (key : ℕ) (c : Page) (state : Proc) → EndsWith Value key c state → Answered state (op.Find key) (found_reply ((node_of c).look key))
find_answered key c state e = subst (λ (z : Proc). Answered z (op.Find key) (found_reply ((node_of c).look key))) (sym e) (record {
  last = searching key (find.Over ((node_of c).look key));
  takes = (refl, refl);
  op = refl;
  answer = ap (λ (z : Answer). Some z) (found_is ((node_of c).look key));
  log = λ marks log. log;
  tidy = λ marks tidy. tidy;
})

pub find_finds : (l : Layout) (pass key turns : ℕ) (old : PassState) (h : Seat (Unit {0}) (View PassState)) (e : PassState) (glance : Glance) (has : HasLeaf l pass Value key turns old h glance) → ends (known h) 0 e → Finds old.first l.pages pass turns (op.Find key) (found_reply ((node_of has.leaf.page).look key)) old.trail e.trail
find_finds l pass key turns old h e glance has ended = finds l pass Value key turns old h e glance has ended (op.Find key) _ (find_answered key has.leaf.page _ has.leaf.ends)

-- ---- a part

part_answered : (direction : Direction) (from : ℕ) (rows : PartRows) (state : Proc) → state ≡ listing direction from (part.Ending rows) → Answered state (op_toward direction from) (reply.Rows rows.rows rows.next)
part_answered direction from rows state e = subst (λ (z : Proc). Answered z (op_toward direction from) (reply.Rows rows.rows rows.next)) (sym e) (record {
  last = listing direction from (part.Over rows);
  takes = (refl, refl);
  op = refl;
  answer = refl;
  log = λ marks log. log;
  tidy = λ marks tidy. tidy;
})

pub part_finds : (l : Layout) (pass : ℕ) (direction : Direction) (from turns : ℕ) (old : PassState) (h : Seat (Unit {0}) (View PassState)) (e : PassState) (glance : Glance) (has : HasLeaf l pass (Rows direction) from turns old h glance) → ends (known h) 0 e → Finds old.first l.pages pass turns (op_toward direction from) (reply.Rows has.leaf.ends.0.rows has.leaf.ends.0.next) old.trail e.trail
part_finds l pass direction from turns old h e glance has ended = finds l pass (Rows direction) from turns old h e glance has ended (op_toward direction from) _ (part_answered direction from has.leaf.ends.0 _ has.leaf.ends.2)
