-- What a part tells of the map, and where its entry stands.
use Rattle.std.proofs.Common.{◌≡◌, ℕ, ◌-◌, ◌<◌, Bool, true, false, Option, Some, List, [], ◌∷◌, ◌++◌, length, reverse, cond, refl, sym, ap, ◌∙◌, subst, append_assoc, arith}
use Rattle.std.specs.Prelude.{◌↔◌, ◌==◌, Contains}
use Rattle.std.proofs.lemmas.List.{append_cancel_left, length-reverse, get_or-reverse, reverse-reverse}
use Rattle.bl_model.specs.Map.{Map, MayAnswer}
use Rattle.bl_model.specs.History.{IsLegalFrom, final_map, entries_of_pass}
use Rattle.bl_model.specs.Parts.{rows_of, ended_at}
use Rattle.bl_model.specs.Rows.{key_at, HasRisingKeys}
use Rattle.bl_model.specs.declared.operation.Entry.{Entry}
use Rattle.bl_model.specs.declared.operation.Next.TheVariants.{More, End}
use Rattle.bl_model.specs.declared.operation.Reply.{Reply}
use Rattle.bl_model.specs.declared.operation.Reply.TheVariants.{Rows}
use Rattle.bl_model.proofs.Histories.{legal_rest, entries_of_pass-append}
use Rattle.bl_claims.specs.Trails.{Trail, history_of, entries_at}
use Rattle.bl_proc.specs.declared.parts.Direction.{Direction}
use Rattle.bl_proc.specs.declared.parts.Direction.TheVariants.{Up, Down}
use Rattle.bl_proc.specs.Parts.{op_toward}
use Rattle.bl_index_read.specs.LeafRows.{IsBefore, IsFrom, AreInOrder}

-- ---- the reply of a part

-- rows that rise from the back fall
falling_of : (rows : List (ℕ × ℕ)) → HasRisingKeys (reverse rows) → AreInOrder Down rows
falling_of rows h i j lt within =
    let n : length (reverse rows) ≡ length rows = length-reverse rows in
    let at : (k : ℕ) → k < length rows → key_at (reverse rows) (length rows - 1 - k) ≡ key_at rows k = λ k low.
    let place : length rows - 1 - (length rows - 1 - k) ≡ k = omega (arith, low) in
    ap (λ (r : ℕ × ℕ). r.0) (get_or-reverse rows (length rows - 1 - k) (0, 0) (omega (arith, low))) ∙ ap (key_at rows) place in
    omega (arith, at i (omega (arith, lt, within)), at j within, h (length rows - 1 - j) (length rows - 1 - i) (omega (arith, lt, within)) (omega (arith, n, lt, within)))

in_reversed : (xs : List (ℕ × ℕ)) (x : ℕ × ℕ) → Contains (reverse xs) x → Contains xs x
in_reversed xs x (k, lt, is) = let n = length-reverse xs in (length xs - 1 - k, omega (arith, n, lt), sym (get_or-reverse xs k x (omega (arith, n, lt))) ∙ is)

of_reversed : (xs : List (ℕ × ℕ)) (x : ℕ × ℕ) → Contains xs x → Contains (reverse xs) x
of_reversed xs x c = in_reversed (reverse xs) x (subst (λ (z : List (ℕ × ℕ)). Contains z x) (sym (reverse-reverse xs)) c)

-- the pairs of the map from its key on up to where it ended, upwards or downwards
pub record TellsPart (direction : Direction) (m : Map) (from : ℕ) (reply : Reply) : Type 0 where
  pub ordered : AreInOrder direction (rows_of reply)
  pub further : IsBefore direction (ended_at reply) from
  pub pairs : (key value : ℕ) → Contains (rows_of reply) (key, value) ↔ ((m key ≡ Some value) × IsFrom direction from key × IsBefore direction (ended_at reply) key)

pub part_tells : (direction : Direction) (m : Map) (from : ℕ) (reply : Reply) → MayAnswer m (op_toward direction from) reply → TellsPart direction m from reply
part_tells Up m from (Rows rows (More next)) may = record {
  ordered = may.1.rising;
  further = may.0;
  pairs = λ key value. let both = may.1.pairs key value in (λ c. let there = both.0 c in (there.0, there.1.0, there.1.1), λ (is, low, high). both.1 (is, (low, high)));
}
part_tells Up m from (Rows rows End) may = record {
  ordered = may.rising;
  further = tt;
  pairs = λ key value. let both = may.pairs key value in (λ c. let there = both.0 c in (there.0, there.1, tt), λ (is, low, high). both.1 (is, low));
}
part_tells Up m from reply may = absurd may
part_tells Down m from (Rows rows (More next)) may = record {
  ordered = falling_of rows.items may.1.rising;
  further = may.0;
  pairs = λ key value. let both = may.1.pairs key value in (
    λ c. let there = both.0 (of_reversed rows.items (key, value) c) in (there.0, there.1.1, there.1.0),
    λ (is, high, low). in_reversed rows.items (key, value) (both.1 (is, (low, high))),
  );
}
part_tells Down m from (Rows rows End) may = record {
  ordered = falling_of rows.items may.rising;
  further = tt;
  pairs = λ key value. let both = may.pairs key value in (
    λ c. let there = both.0 (of_reversed rows.items (key, value) c) in (there.0, there.1, tt),
    λ (is, high, low). in_reversed rows.items (key, value) (both.1 (is, high)),
  );
}
part_tells Down m from reply may = absurd may

-- ---- where an entry stands

-- the entry stands among others
pub record Stands (e : Entry) (es : List Entry) : Type 0 where
  pub before : List Entry
  pub after : List Entry
  pub is : es ≡ before ++ e ∷ after

stands_cons : (e x : Entry) (xs mine : List Entry) (b : Bool) → cond b (x ∷ mine) mine ≡ e ∷ [] → (mine ≡ e ∷ [] → Stands e xs) → Stands e (x ∷ xs)
stands_cons e x xs mine true h rest = let same : x ≡ e = cc in record { before = []; after = xs; is = ap (λ (z : Entry). z ∷ xs) same }
stands_cons e x xs mine false h rest = let there = rest h in record { before = x ∷ there.before; after = there.after; is = ap (λ (z : List Entry). x ∷ z) there.is }

-- the only entry of a pass stands somewhere
pub stands : (pass : ℕ) (e : Entry) (es : List Entry) → entries_of_pass pass es ≡ e ∷ [] → Stands e es
stands pass e [] h = let none : ⊥ = cc in absurd none
stands pass e (x ∷ xs) h = stands_cons e x xs (entries_of_pass pass xs) (x.pass == pass) h (stands pass e xs)

-- where the entry of a call stands in the history, and that it is answered on the map before it
pub record Answered (start : Map) (e : Entry) (old new : List Entry) : Type 0 where
  pub before : List Entry
  pub after : List Entry
  pub stands : new ≡ old ++ (before ++ e ∷ after)
  pub may : MayAnswer (final_map start (old ++ before)) e.op e.reply

pub answered : (start : Map) (pass : ℕ) (e : Entry) (old more new : List Entry) → new ≡ old ++ more → IsLegalFrom start new → entries_of_pass pass new ≡ entries_of_pass pass old ++ e ∷ [] → Answered start e old new
answered start pass e old more new on legal once =
    let mine : entries_of_pass pass more ≡ e ∷ [] = append_cancel_left (entries_of_pass pass old) (entries_of_pass pass more) (e ∷ [])
    (sym (ap (entries_of_pass pass) on ∙ entries_of_pass-append pass old more) ∙ once) in
    let there : Stands e more = stands pass e more mine in
    let is : new ≡ old ++ (there.before ++ e ∷ there.after) = on ∙ ap (λ (z : List Entry). old ++ z) there.is in
    record {
      before = there.before;
      after = there.after;
      stands = is;
      may = (legal_rest start (old ++ there.before) (e ∷ there.after) (subst (IsLegalFrom start) (is ∙ sym (append_assoc old there.before (e ∷ there.after))) legal)).0;
    }

pub history_append : (xs ys : Trail) → history_of (xs ++ ys) ≡ history_of xs ++ history_of ys
history_append [] ys = refl
history_append (m ∷ ms) ys = ap (λ (z : List Entry). entries_at m.event.process m.said ++ z) (history_append ms ys) ∙ sym (append_assoc (entries_at m.event.process m.said) (history_of ms) (history_of ys))
