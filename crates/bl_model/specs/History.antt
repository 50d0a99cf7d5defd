-- Histories: answered operations, one after another.
use Rattle.std.specs.Prelude.{ℕ, List, [], ◌∷◌, take, filter, ◌==◌}
use Rattle.bl_model.specs.declared.operation.Entry.{Entry}
use Rattle.bl_model.specs.Map.{Map, MayAnswer, map_step}

-- Each entry's answer is one that its operation may give on the map after those before it, the first on m.
abbrev pub IsLegalFrom : Map → List Entry → Type 0
IsLegalFrom m [] = Unit {0}
IsLegalFrom m (e ∷ es) = MayAnswer m e.op e.reply × IsLegalFrom (map_step e.op e.reply m) es

-- the map after a whole history that begins on m
abbrev pub final_map : Map → List Entry → Map
final_map m [] = m
final_map m (e ∷ es) = final_map (map_step e.op e.reply m) es

-- the map after the first i entries
abbrev pub map_after : Map → List Entry → ℕ → Map
map_after m history i = final_map m (take i history)

-- the entries of one pass, in their order
abbrev pub entries_of_pass : ℕ → List Entry → List Entry
entries_of_pass pass history = filter (λ e. e.pass == pass) history
