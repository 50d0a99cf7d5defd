-- Replies of operations on one key, and the replies of the map that they stand for.
use Rattle.bl_model.specs.declared.operation.Reply.{Reply}
use Rattle.bl_model.specs.declared.operation.Reply.TheVariants as reply
use Rattle.bl_model.specs.declared.operation.KeyReply.{KeyReply}
use Rattle.bl_model.specs.declared.operation.KeyReply.TheVariants.{Found, Absent, Inserted, Present, Replaced, Deleted, Changed, Differs, NoRoom}

abbrev pub reply_of : KeyReply → Reply
reply_of (Found value) = reply.Found value
reply_of Absent = reply.Absent
reply_of Inserted = reply.Inserted
reply_of (Present value) = reply.Present value
reply_of (Replaced value) = reply.Replaced value
reply_of (Deleted value) = reply.Deleted value
reply_of Changed = reply.Changed
reply_of (Differs value) = reply.Differs value
reply_of NoRoom = reply.NoRoom
