-- The entries of one call more.
use Rattle.std.proofs.Common.{ℕ, ◌≡◌, ◌++◌, List, [], ◌∷◌, refl, ap, length, arith}
use Rattle.bl_model.specs.declared.operation.Op.{Op}
use Rattle.bl_model.specs.declared.operation.KeyReply.{KeyReply}
use Rattle.bl_model.specs.declared.operation.Entry.{Entry}
use Rattle.bl_model.specs.Replies.{reply_of}
use Rattle.bl_map_calls.specs.Entries.{entries_of}

abbrev pub entry : {A : Type 0} → ℕ → (A → Op) → A → KeyReply → Entry
entry pass ask a reply = record { pass = pass; op = ask a; reply = reply_of reply }

pub entries_more : {A : Type 0} (pass : ℕ) (ask : A → Op) (list : List A) (replies : List KeyReply) (a : A) (reply : KeyReply) → length replies ≡ length list
    → entries_of pass ask (list ++ a ∷ []) (replies ++ reply ∷ []) ≡ entries_of pass ask list replies ++ entry pass ask a reply ∷ []
unfolding entries_of
entries_more pass ask [] [] a reply e = refl
entries_more pass ask [] (r ∷ rs) a reply e = absurd (omega (arith, e))
entries_more pass ask (k ∷ ks) [] a reply e = absurd (omega (arith, e))
entries_more pass ask (k ∷ ks) (r ∷ rs) a reply e =
    ap (λ (z : List Entry). entry pass ask k r ∷ z) (entries_more pass ask ks rs a reply (let f : length rs ≡ length ks = omega (arith, e) in f))

-- and of calls behind them
pub entries_then : {A : Type 0} (pass : ℕ) (ask : A → Op) (list : List A) (replies : List KeyReply) (others : List A) (answers : List KeyReply) → length replies ≡ length list
    → entries_of pass ask (list ++ others) (replies ++ answers) ≡ entries_of pass ask list replies ++ entries_of pass ask others answers
unfolding entries_of
entries_then pass ask [] [] others answers e = refl
entries_then pass ask [] (r ∷ rs) others answers e = absurd (omega (arith, e))
entries_then pass ask (k ∷ ks) [] others answers e = absurd (omega (arith, e))
entries_then pass ask (k ∷ ks) (r ∷ rs) others answers e =
    ap (λ (z : List Entry). entry pass ask k r ∷ z) (entries_then pass ask ks rs others answers (let f : length rs ≡ length ks = omega (arith, e) in f))

pub no_entries : {A : Type 0} (pass : ℕ) (ask : A → Op) → entries_of pass ask [] [] ≡ []
unfolding entries_of
no_entries pass ask = refl
