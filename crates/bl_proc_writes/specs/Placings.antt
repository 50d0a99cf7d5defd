-- A write that leaves its value at the key, as a write.
use Rattle.bl_model.specs.declared.deciding.KeyWrite.{KeyWrite}
use Rattle.bl_model.specs.declared.deciding.KeyWrite.TheVariants as write
use Rattle.bl_proc_writes.specs.declared.insert_post.Placing.{Placing}
use Rattle.bl_proc_writes.specs.declared.insert_post.Placing.TheVariants.{Insert, Put}

abbrev pub write_of : Placing → KeyWrite
write_of (Insert value) = write.Insert value
write_of (Put value) = write.Put value
