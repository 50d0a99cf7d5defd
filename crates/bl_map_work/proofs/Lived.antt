-- A map that rounds have grown goes on behind the lives of the one that they began with.
use Rattle.std.proofs.Common.{ℕ, ◌++◌, List, [], ◌∷◌, sym, subst, append_assoc, append-nil}
use Rattle.bl_model.specs.Map.{Map as PlainMap}
use Rattle.bl_index.specs.Lives.{Life, life_of, GoesOnBehind}
use Rattle.bl_index.specs.declared.index.Pass.{Pass}
use Rattle.bl_index.proofs.Resized.{resized_life}
use Rattle.bl_map.specs.declared.map.Map.{Map}
use Rattle.bl_map_work.specs.declared.job.Task.{Task}
use Rattle.bl_map_work.specs.Rounds.{Doing, ComesToLast, GoesOnBehindMore, GrowsByRounds, IsWorked, KeepsLives}
use Rattle.bl_map_work.specs.Rounds.GrowsByRounds.{NotYet, Grown}
use Rattle.bl_map_work.specs.Rounds.ComesToLast.{AtMost, Refused}
use Rattle.bl_map_work.specs.Rounds.IsWorked.{Done, Last}

no_more : (whole : Map) → KeepsLives whole whole
no_more whole m lives on = record { more = []; behind = subst (λ (l : List Life). GoesOnBehind m l whole.index) (sym (append-nil lives)) on }

one_more : (m : PlainMap) (lives more : List Life) (life : Life) (new : Map) → GoesOnBehind m ((lives ++ more) ++ life ∷ []) new.index → GoesOnBehindMore m lives new
one_more m lives more life new on = record {
  more = more ++ life ∷ [];
  behind = subst (λ (l : List Life). GoesOnBehind m l new.index) (append_assoc lives more (life ∷ [])) on;
}

pub grown_keeps : {J : Type 0} (Does : Doing J) (most : ℕ) (first : Map) (seats : List Pass) (tasks : List (Task J)) (whole : Map) (lefts : List Pass) (rests : List (Task J))
    → GrowsByRounds Does most first seats tasks whole lefts rests → KeepsLives first whole
grown_keeps Does most first seats tasks whole lefts rests NotYet = no_more first
grown_keeps Does most first seats tasks whole lefts rests (Grown old befores works grown more) = λ m lives on.
    let so_far = grown_keeps Does most first seats tasks old befores works grown m lives on in
    one_more m lives so_far.more (life_of old.index more.resized.closes.whole) whole
    (resized_life m (lives ++ so_far.more) old.index more.lefts _ whole.index lefts more.resized so_far.behind)

pub last_keeps : {J : Type 0} (Does : Doing J) (most : ℕ) (first : Map) (seats : List Pass) (tasks : List (Task J)) (whole : Map) (lefts : List Pass) (rests : List (Task J))
    → ComesToLast Does most first seats tasks whole lefts rests → KeepsLives first whole
last_keeps Does most first seats tasks whole lefts rests (AtMost grown most_are) = grown_keeps Does most first seats tasks whole lefts rests grown
last_keeps Does most first seats tasks whole lefts rests (Refused befores works why grown leaves fault) = grown_keeps Does most first seats tasks whole befores works grown

pub worked_keeps : {J : Type 0} (Does : Doing J) (most : ℕ) (first : Map) (seats : List Pass) (tasks : List (Task J)) (whole : Map) (lefts : List Pass) (rests : List (Task J))
    → IsWorked Does most first seats tasks whole lefts rests → KeepsLives first whole
worked_keeps Does most first seats tasks whole lefts rests (Done befores works grown round are) = grown_keeps Does most first seats tasks whole befores works grown
worked_keeps Does most first seats tasks whole lefts rests (Last befores works comes round) = last_keeps Does most first seats tasks whole befores works comes
