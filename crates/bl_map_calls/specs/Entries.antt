-- The entries of many calls.
use Rattle.std.specs.Prelude.{ℕ, List, [], ◌∷◌}
use Rattle.bl_model.specs.declared.operation.Op.{Op}
use Rattle.bl_model.specs.declared.operation.KeyReply.{KeyReply}
use Rattle.bl_model.specs.declared.operation.Entry.{Entry}
use Rattle.bl_model.specs.Replies.{reply_of}

-- the entries of the calls that these ask for, one after another, each with its reply
unfoldable pub entries_of : {A : Type 0} → ℕ → (A → Op) → List A → List KeyReply → List Entry
entries_of pass ask [] replies = []
entries_of pass ask (a ∷ list) [] = []
entries_of pass ask (a ∷ list) (reply ∷ replies) = record { pass = pass; op = ask a; reply = reply_of reply } ∷ entries_of pass ask list replies
