-- One key more is looked up.
use Rattle.std.proofs.Common.{ℕ, ◌≡◌, ◌++◌, ◌+◌, List, [], ◌∷◌, Option, refl, sym, ap, ◌∙◌, subst, append-nil, append_assoc, length-append}
use Rattle.bl_model.specs.declared.operation.Op.TheVariants as op
use Rattle.bl_model.specs.declared.operation.KeyReply.{KeyReply}
use Rattle.bl_model.specs.declared.operation.Entry.{Entry}
use Rattle.bl_model.specs.Replies.{reply_of}
use Rattle.bl_page.specs.declared.page.Page.{Page}
use Rattle.bl_claims.specs.Trails.{Trail}
use Rattle.bl_claims.specs.Seeing.{own}
use Rattle.std.proofs.lemmas.List.{length_push}
use Rattle.bl_index_read.specs.Searching.{RunsOut}
use Rattle.bl_index_read.specs.Together.{FindsEach, NoneSought, OneMore}
use Rattle.bl_map_calls.specs.Works.{Works, Searches, Searched, NoneMade}
use Rattle.bl_map_calls.specs.Entries.{entries_of}
use Rattle.bl_map_calls.specs.Finds.{FindsMany}
use Rattle.bl_map_calls.proofs.Adding.{searches_then, call_adds, call_works, lost_more, made_one}
use Rattle.bl_map_calls.proofs.Listing.{entry, entries_more, entries_then}

pub finds_none : (first : List (Option Page)) (pages pass : ℕ) (old : Trail) → FindsMany first pages pass [] [] old old
unfolding entries_of
finds_none first pages pass old = record { each = refl; begins = ([], sym (append-nil old)); seen = λ s. s; mine = sym (append-nil _); searches = NoneMade }

pub finds_one_more : (first : List (Option Page)) (pages pass it : ℕ) (keys : List ℕ) (replies : List KeyReply) (key : ℕ) (reply : KeyReply) (old mid new : Trail) → it ≡ pass → FindsMany first pages pass keys replies old mid → Works first it (op.Find key) (reply_of reply) mid new → Searched first pages it (op.Find key) (reply_of reply) mid new → FindsMany first pages pass (keys ++ key ∷ []) (replies ++ reply ∷ []) old new
finds_one_more first pages pass it keys replies key reply old mid new same m works searched =
    let more = entries_more pass op.Find keys replies key reply m.each in
    let w : Works first pass (op.Find key) (reply_of reply) mid new = subst (λ (z : ℕ). Works first z (op.Find key) (reply_of reply) mid new) same works in
    let s : Searched first pages pass (op.Find key) (reply_of reply) mid new = subst (λ (z : ℕ). Searched first pages z (op.Find key) (reply_of reply) mid new) same searched in
    record {
      each = length_push replies reply ∙ (ap (λ (z : ℕ). z + 1) m.each ∙ sym (length_push keys key));
      begins = (m.begins.0 ++ w.begins.0, w.begins.1 ∙ (ap (λ (z : Trail). z ++ w.begins.0) m.begins.1 ∙ append_assoc old m.begins.0 w.begins.0));
      seen = λ l. w.seen;
      mine = w.once ∙ (ap (λ (z : List Entry). z ++ entry pass op.Find key reply ∷ []) m.mine ∙ (append_assoc _ (entries_of pass op.Find keys replies) (entry pass op.Find key reply ∷ []) ∙ ap (λ (z : List Entry). own pass old ++ z) (sym more)));
      searches = subst (λ (z : List Entry). Searches first pages pass z old new) (sym more) (searches_then first pages pass (entries_of pass op.Find keys replies) (entry pass op.Find key reply ∷ []) old mid new m.searches s);
    }

-- searches that set off one behind another
pub finds_each : (first : List (Option Page)) (pages pass it turns : ℕ) (keys : List ℕ) (replies : List KeyReply) (old new : Trail) → it ≡ pass → turns ≡ pages → FindsEach first pages it turns keys replies old new → FindsMany first pages pass keys replies old new
finds_each first pages pass it turns keys replies old new same many NoneSought = finds_none first pages pass old
finds_each first pages pass it turns keys replies old new same many (OneMore {keys = before} {replies = answered} {mid = mid} key reply each finds) =
    finds_one_more first pages pass pass before answered key reply old mid new refl (finds_each first pages pass it turns before answered old mid same many each)
    (call_works first pass it (op.Find key) (reply_of reply) mid new same finds.answers)
    (made_one first pages pass it turns (op.Find key) (reply_of reply) mid mid new same many NoneMade finds)

-- and one that ran out of turns behind them
pub finds_lost : (first : List (Option Page)) (pages pass it turns : ℕ) (keys : List ℕ) (replies : List KeyReply) (old mid new : Trail) → it ≡ pass → turns ≡ pages → FindsMany first pages pass keys replies old mid → RunsOut first pages it turns mid new → FindsMany first pages pass keys replies old new
finds_lost first pages pass it turns keys replies old mid new same many m out =
    let more = call_adds first pass it mid new same out.adds in
    record {
      each = m.each;
      begins = (m.begins.0 ++ more.begins.0, more.begins.1 ∙ (ap (λ (z : Trail). z ++ more.begins.0) m.begins.1 ∙ append_assoc old m.begins.0 more.begins.0));
      seen = λ l. more.seen (m.seen l);
      mine = more.none ∙ m.mine;
      searches = lost_more first pages pass it turns _ old mid new same many m.searches out;
    }

-- and keys behind others
pub finds_then : (first : List (Option Page)) (pages pass it : ℕ) (keys others : List ℕ) (replies answers : List KeyReply) (old mid new : Trail) → it ≡ pass → FindsMany first pages pass keys replies old mid → FindsMany first pages it others answers mid new → FindsMany first pages pass (keys ++ others) (replies ++ answers) old new
finds_then first pages pass it keys others replies answers old mid new same m n =
    let k : FindsMany first pages pass others answers mid new = subst (λ (z : ℕ). FindsMany first pages z others answers mid new) same n in
    let all = entries_then pass op.Find keys replies others answers m.each in
    record {
      each = length-append replies answers ∙ ((λ i. m.each i + k.each i) ∙ sym (length-append keys others));
      begins = (m.begins.0 ++ k.begins.0, k.begins.1 ∙ (ap (λ (z : Trail). z ++ k.begins.0) m.begins.1 ∙ append_assoc old m.begins.0 k.begins.0));
      seen = λ l. k.seen (m.seen l);
      mine = k.mine ∙ (ap (λ (z : List Entry). z ++ entries_of pass op.Find others answers) m.mine ∙ (append_assoc _ (entries_of pass op.Find keys replies) (entries_of pass op.Find others answers) ∙ ap (λ (z : List Entry). own pass old ++ z) (sym all)));
      searches = subst (λ (z : List Entry). Searches first pages pass z old new) (sym all) (searches_then first pages pass (entries_of pass op.Find keys replies) (entries_of pass op.Find others answers) old mid new m.searches k.searches);
    }
