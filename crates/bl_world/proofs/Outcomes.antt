-- What a call leaves when it is done.
use Rattle.std.proofs.Common.{Result, Ok, Err, OnOk, OnErr}

pub ok_map : {A E P Q : Type 0} (r : Result A E) → (P → Q) → OnOk r P → OnOk r Q
ok_map (Ok a) f h = f h
ok_map (Err e) f h = tt

pub err_of : {A E Q : Type 0} (r : Result A E) → Q → OnErr r Q
err_of (Ok a) q = tt
err_of (Err e) q = q
