-- Worked examples of the definitions.
use Rattle.std.proofs.Common.{◌≡◌, ℕ, List, [], ◌∷◌, Some, None, refl, arith, ◌<◌, ◌≤◌, lit<, lit≤}
use Rattle.bl_model.specs.declared.operation.Op.TheVariants.{Find, Insert, Put, Part}
use Rattle.bl_model.specs.declared.operation.Reply.TheVariants.{Absent, Inserted, Present, Replaced, NoRoom, Rows}
use Rattle.bl_model.specs.declared.operation.Entry.{Entry}
use Rattle.bl_model.specs.declared.operation.Next.TheVariants.{More}
use Rattle.std.proofs.lemmas.Grind.{common_steps}
use Rattle.bl_model.proofs.Parts.{lists_window}
use Rattle.bl_model.specs.Rows.{map_of, HasRisingKeys}
use Rattle.bl_model.specs.Map.{empty, MayAnswer}
use Rattle.bl_model.specs.History.{IsLegalFrom, final_map, map_after, entries_of_pass}

-- 5 is put in with 50 by pass 0; a second insert by pass 1 finds it there
abbrev example : List Entry
example = record { pass = 0; op = Find 5; reply = Absent } ∷ record { pass = 0; op = Insert 5 50; reply = Inserted }
    ∷ record { pass = 1; op = Insert 5 51; reply = Present 50 } ∷ []

example_is_legal : IsLegalFrom empty example
example_is_legal = (refl, (refl, (refl, tt)))

value_before : map_after empty example 1 5 ≡ None
value_before = refl

value_after : final_map empty example 5 ≡ Some 50
value_after = refl

of_one_pass : entries_of_pass 1 example ≡ record { pass = 1; op = Insert 5 51; reply = Present 50 } ∷ []
of_one_pass = refl

-- a put replaces what is there and answers that; a second one enters a key that isn't there; for a third there is no room
abbrev puts : List Entry
puts = record { pass = 0; op = Put 5 51; reply = Replaced 50 } ∷ record { pass = 0; op = Put 6 60; reply = Inserted } ∷ record { pass = 1; op = Put 6 61; reply = NoRoom } ∷ []

puts_are_legal : IsLegalFrom (final_map empty example) puts
puts_are_legal = (refl, (refl, (tt, tt)))

value_put : final_map (final_map empty example) puts 5 ≡ Some 51
value_put = refl

value_entered : final_map (final_map empty example) puts 6 ≡ Some 60
value_entered = refl

-- a put that loses the old value, and one that says that it entered what was there, are none
put_that_forgets : MayAnswer (final_map empty example) (Put 5 51) (Replaced 51) → ⊥
put_that_forgets e = let other = e in grind (arith, common_steps)

put_that_hides : MayAnswer (final_map empty example) (Put 5 51) Inserted → ⊥
put_that_hides e = cc

-- four pairs
abbrev four : List (ℕ × ℕ)
four = (2, 20) ∷ (3, 30) ∷ (5, 50) ∷ (8, 80) ∷ []

rising_four : HasRisingKeys four
rising_four i j lt in_range = grind (arith, common_steps)

-- a part from 3 on may stop before 8
part_of_two : MayAnswer (map_of four) (Part 3) (Rows (record { items = (3, 30) ∷ (5, 50) ∷ [] }) (More 8))
part_of_two = (
  lit< tt,
  lists_window four ((3, 30) ∷ (5, 50) ∷ []) (λ key. (3 ≤ key) × (key < 8)) 1 2 rising_four refl (lit≤ tt)
      (λ j d lt. grind (arith, common_steps))
      (λ j lt. (grind (arith, common_steps), grind (arith, common_steps)))
      (λ p lt takes. (grind (arith, common_steps), grind (arith, common_steps))),
)

-- a part that leaves 5 out is none
part_without_5 : MayAnswer (map_of four) (Part 3) (Rows (record { items = (3, 30) ∷ [] }) (More 8)) → ⊥
part_without_5 part = let held = (part.1.pairs 5 50).1 (refl, (lit≤ tt, lit< tt)) in
    let e = held.2 in grind (arith, common_steps)
