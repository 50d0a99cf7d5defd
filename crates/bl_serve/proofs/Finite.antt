-- A map of an index has no key from some key on.
use Rattle.std.proofs.Common.{◌≡◌, ℕ, suc, ◌+◌, ◌≤◌, List, [], ◌∷◌, false, refl, arith}
use Rattle.std.specs.Prelude.{◌==◌, None}
use Rattle.std.proofs.lemmas.Grind.{common_steps}
use Rattle.bl_model.specs.declared.operation.Entry.{Entry}
use Rattle.bl_model.specs.declared.operation.Op.{Op}
use Rattle.bl_model.specs.declared.operation.Op.TheVariants.{Insert, Put, Delete, Change}
use Rattle.bl_model.specs.declared.operation.Reply.{Reply}
use Rattle.bl_model.specs.declared.operation.Reply.TheVariants.{Inserted, Replaced, Deleted, Changed}
use Rattle.bl_model.specs.History.{final_map}
use Rattle.bl_model.specs.Map.{Map, map_step, with_pair, without_key}
use Rattle.bl_model.specs.Rows.{map_of}

abbrev pub IsFinite : Map → Type 0
IsFinite m = (end : ℕ) × ((key : ℕ) → end ≤ key → m key ≡ None)

finite_with : (m : Map) (key value : ℕ) → IsFinite m → IsFinite (with_pair m key value)
finite_with m key value f = (f.0 + suc key, λ j high. let other : (j == key) ≡ false = grind (arith, common_steps) in rw other (f.1 j (omega arith)))

finite_without : (m : Map) (key : ℕ) → IsFinite m → IsFinite (without_key m key)
finite_without m key f = (f.0 + suc key, λ j high. let other : (j == key) ≡ false = grind (arith, common_steps) in rw other (f.1 j (omega arith)))

pub finite_rows : (rows : List (ℕ × ℕ)) → IsFinite (map_of rows)
finite_rows [] = (0, λ key high. refl)
finite_rows ((k, value) ∷ rows) = let f = finite_rows rows in (f.0 + suc k, λ j high. let other : (k == j) ≡ false = grind (arith, common_steps) in rw other (f.1 j (omega arith)))

pub finite_step : (op : Op) (reply : Reply) (m : Map) → IsFinite m → IsFinite (map_step op reply m)
finite_step (Insert key value) Inserted m f = finite_with m key value f
finite_step (Put key value) Inserted m f = finite_with m key value f
finite_step (Put key value) (Replaced there) m f = finite_with m key value f
finite_step (Delete key) (Deleted value) m f = finite_without m key f
finite_step (Change key old new) Changed m f = finite_with m key new f
finite_step op reply m f = f

pub finite_history : (m : Map) (es : List Entry) → IsFinite m → IsFinite (final_map m es)
finite_history m [] f = f
finite_history m (e ∷ es) f = finite_history (map_step e.op e.reply m) es (finite_step e.op e.reply m f)
