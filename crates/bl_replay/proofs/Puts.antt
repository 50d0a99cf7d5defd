-- What a turn prints.
use Rattle.std.proofs.Common.{ℕ, ◌≡◌, ◌<◌, ◌++◌, List, [], ◌∷◌, length, ap, sym, ◌∙◌, subst, append_assoc}
use Rattle.bl_world.specs.declared.turns.Act.TheVariants as act
use Rattle.bl_world.specs.declared.turns.Event.{Event}
use Rattle.bl_world.specs.declared.turns.Turn.{Turn}
use Rattle.bl_world.specs.Views.{View}
use Rattle.bl_world.specs.Turns.{TurnsTo}
use Rattle.bl_world.proofs.Runs.{turn_size}

-- what it has put stands in the world behind it too
pub puts_there : (v v' : View) (t : Turn) (e : Event)
    → ((turn : Turn) (after : View) (event : Event) (x : ℕ) → TurnsTo v turn after → after.events ≡ v.events ++ event ∷ [] → event.act ≡ act.Put x → x < length v.pages)
    → TurnsTo v t v' → v'.events ≡ v.events ++ e ∷ [] → (x : ℕ) → e.act ≡ act.Put x → x < length v'.pages
puts_there v v' t e within turned recorded x puts = subst (λ n. x < n) (sym (turn_size v v' t turned)) (within t v' e x turned recorded puts)

-- three pieces, one behind the other
pub three : (o a b d p q r : List ℕ) → a ≡ o ++ p → b ≡ a ++ q → d ≡ b ++ r → d ≡ o ++ (p ++ q ++ r)
three o a b d p q r e f g = g ∙ ap (λ z. z ++ r) (f ∙ ap (λ z. z ++ q) e ∙ append_assoc o p q) ∙ append_assoc o (p ++ q) r
