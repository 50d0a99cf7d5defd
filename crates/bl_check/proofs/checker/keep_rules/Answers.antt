use Rattle.std.proofs.Common.{refl}
use Rattle.std.proofs.lemmas.Result.{err_from_is_err_and}
use Rattle.bl_check.specs.Rules.Rule.{OneAnchor, Leftmost, Links, Chains, Children}
use Rattle.bl_check.proofs.Rulings.{kept, refused, at_fault, at_last, before_4, before_5, before_6, before_7, before_8}
use Rattle.bl_check.proofs.checker.keep_rules.Goals as goal

pub returns-in_err-refuse-2-clause-fault : goal.returns-in_err-refuse-2-clause-fault
returns-in_err-refuse-2-clause-fault c = let pages = c.args.pages.now in let p = err_from_is_err_and c.from_residual-in_err-refuse-2.result c.from_residual-in_err-refuse-2.ensures.1 in
    at_fault _ _ c.in_err-refuse-2.field-0.0 pages p.1 p.2 (refused pages Leftmost 4 c.wrong_leftmost.result c.in_err-refuse-2.field-0.0 refl (before_4 pages
    (kept OneAnchor pages c.wrong_anchor.result c.wrong_anchor.ensures c.in_ok-refuse.ensures)) c.wrong_leftmost.ensures c.in_err-refuse-2.ensures)

pub returns-in_err-refuse-3-clause-fault : goal.returns-in_err-refuse-3-clause-fault
returns-in_err-refuse-3-clause-fault c = let pages = c.args.pages.now in let p = err_from_is_err_and c.from_residual-in_err-refuse-3.result c.from_residual-in_err-refuse-3.ensures.1 in
    at_fault _ _ c.in_err-refuse-3.field-0.0 pages p.1 p.2 (refused pages Links 5 c.wrong_link.result c.in_err-refuse-3.field-0.0 refl (before_5 pages
    (kept OneAnchor pages c.wrong_anchor.result c.wrong_anchor.ensures c.in_ok-refuse.ensures)
    (kept Leftmost pages c.wrong_leftmost.result c.wrong_leftmost.ensures c.in_ok-refuse-2.ensures)) c.wrong_link.ensures.first c.in_err-refuse-3.ensures)

pub returns-in_err-refuse-4-clause-fault : goal.returns-in_err-refuse-4-clause-fault
returns-in_err-refuse-4-clause-fault c = let pages = c.args.pages.now in let p = err_from_is_err_and c.from_residual-in_err-refuse-4.result c.from_residual-in_err-refuse-4.ensures.1 in
    at_fault _ _ c.in_err-refuse-4.field-0.0 pages p.1 p.2 (refused pages Chains 6 c.off_chain.result c.in_err-refuse-4.field-0.0 refl (before_6 pages
    (kept OneAnchor pages c.wrong_anchor.result c.wrong_anchor.ensures c.in_ok-refuse.ensures)
    (kept Leftmost pages c.wrong_leftmost.result c.wrong_leftmost.ensures c.in_ok-refuse-2.ensures)
    (kept Links pages c.wrong_link.result c.wrong_link.ensures.first c.in_ok-refuse-3.ensures)) c.off_chain.ensures c.in_err-refuse-4.ensures)

pub returns-in_err-refuse-5-clause-fault : goal.returns-in_err-refuse-5-clause-fault
returns-in_err-refuse-5-clause-fault c = let pages = c.args.pages.now in let p = err_from_is_err_and c.from_residual-in_err-refuse-5.result c.from_residual-in_err-refuse-5.ensures.1 in
    at_fault _ _ c.in_err-refuse-5.field-0.0 pages p.1 p.2 (refused pages Children 7 c.wrong_parent.result c.in_err-refuse-5.field-0.0 refl (before_7 pages
    (kept OneAnchor pages c.wrong_anchor.result c.wrong_anchor.ensures c.in_ok-refuse.ensures)
    (kept Leftmost pages c.wrong_leftmost.result c.wrong_leftmost.ensures c.in_ok-refuse-2.ensures)
    (kept Links pages c.wrong_link.result c.wrong_link.ensures.first c.in_ok-refuse-3.ensures)
    (kept Chains pages c.off_chain.result c.off_chain.ensures c.in_ok-refuse-4.ensures)) c.wrong_parent.ensures c.in_err-refuse-5.ensures)

pub returns-clause-fault : goal.returns-clause-fault
returns-clause-fault c = let pages = c.args.pages.now in at_last c.refuse-6.result pages c.dead_page.result (before_8 pages
    (kept OneAnchor pages c.wrong_anchor.result c.wrong_anchor.ensures c.in_ok-refuse.ensures)
    (kept Leftmost pages c.wrong_leftmost.result c.wrong_leftmost.ensures c.in_ok-refuse-2.ensures)
    (kept Links pages c.wrong_link.result c.wrong_link.ensures.first c.in_ok-refuse-3.ensures)
    (kept Chains pages c.off_chain.result c.off_chain.ensures c.in_ok-refuse-4.ensures)
    (kept Children pages c.wrong_parent.result c.wrong_parent.ensures c.in_ok-refuse-5.ensures)) c.dead_page.ensures c.refuse-6.ensures
