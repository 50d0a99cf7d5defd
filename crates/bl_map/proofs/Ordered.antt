-- Calls that stamps put in order.
use Rattle.std.proofs.Common.{◌≡◌, ℕ, Bool, true, false, cond, List, Option, [], ◌∷◌, ◌++◌, refl, sym, ap, ◌∙◌, subst, inl, inr, append_assoc}
use Rattle.std.specs.Prelude.{filter, ◌==◌}
use Rattle.std.proofs.lemmas.Bool.{cases_Bool}
use Rattle.std.proofs.lemmas.List.{append_cancel_left}
use Rattle.std.proofs.lemmas.List.Elements.{filter-append}
use Rattle.bl_model.specs.declared.operation.Entry.{Entry}
use Rattle.bl_model.specs.declared.operation.Op.{Op}
use Rattle.bl_model.specs.declared.operation.Reply.{Reply}
use Rattle.bl_page.specs.declared.page.Page.{Page}
use Rattle.bl_claims.specs.Trails.{Trail, history_of}
use Rattle.bl_claims.specs.Seeing.{own, GoesOnFrom}
use Rattle.bl_map_calls.specs.Works.{Works}
use Rattle.bl_map_calls.proofs.Scanning.{history_append}
use Rattle.bl_map.specs.Stamps.{StandInOrder, StampsKeepOrder}

nothing_is_none : (e : Entry) → ◌≡◌ {A = List Entry} [] (e ∷ []) → ⊥
nothing_is_none e is = cc

first_is : (x e : Entry) (xs : List Entry) → x ∷ xs ≡ e ∷ [] → x ≡ e
first_is x e xs is = cc

kept_there : (test : Entry → Bool) (x : Entry) (xs : List Entry) → test x ≡ true → filter test (x ∷ xs) ≡ x ∷ filter test xs
kept_there test x xs is = ap (λ (b : Bool). cond b (x ∷ filter test xs) (filter test xs)) is

left_out : (test : Entry → Bool) (x : Entry) (xs : List Entry) → test x ≡ false → filter test (x ∷ xs) ≡ filter test xs
left_out test x xs is = ap (λ (b : Bool). cond b (x ∷ filter test xs) (filter test xs)) is

-- an entry stands in a history
record IsIn (e : Entry) (history : List Entry) : Type 0 where
  before : List Entry
  after : List Entry
  is : history ≡ before ++ e ∷ after

-- what alone passes a test stands there
placed : (test : Entry → Bool) (history : List Entry) (e : Entry) → filter test history ≡ e ∷ [] → IsIn e history
placed test [] e is = absurd (nothing_is_none e is)
placed test (x ∷ xs) e is = elim (cases_Bool (test x)) [
  | inl t ↦ record { before = []; after = xs; is = ap (λ (z : Entry). z ∷ xs) (first_is x e (filter test xs) (sym (kept_there test x xs t) ∙ is)) }
  | inr f ↦ let there = placed test xs e (sym (left_out test x xs f) ∙ is) in record { before = x ∷ there.before; after = there.after; is = ap (λ (z : List Entry). x ∷ z) there.is }
]

-- The entry of a call stands in what its trail has gone on by.
record Enters (e : Entry) (old new : Trail) : Type 0 where
  more : List Entry
  grows : history_of new ≡ history_of old ++ more
  there : IsIn e more

entered : (first : List (Option Page)) (pass : ℕ) (op : Op) (reply : Reply) (old new : Trail) → Works first pass op reply old new
    → Enters (record { pass = pass; op = op; reply = reply }) old new
entered first pass op reply old new w =
    let test : Entry → Bool = λ e. e.pass == pass in
    let more : Trail = w.begins.0 in
    let e : Entry = record { pass = pass; op = op; reply = reply } in
    let grows : history_of new ≡ history_of old ++ history_of more = ap history_of w.begins.1 ∙ history_append old more in
    let alone : filter test (history_of more) ≡ e ∷ [] = append_cancel_left (own pass old) (filter test (history_of more)) (e ∷ [])
    (sym (filter-append test (history_of old) (history_of more)) ∙ (sym (ap (filter test) grows) ∙ w.once)) in
    record { more = history_of more; grows = grows; there = placed test (history_of more) e alone }

goes_on : (old new : Trail) → GoesOnFrom old new → (more : List Entry) × (history_of new ≡ history_of old ++ more)
goes_on old new g = (history_of g.0, ap history_of g.1 ∙ history_append old g.0)

flat : (c d f g : List Entry) → (c ++ d) ++ (f ++ g) ≡ (c ++ (d ++ f)) ++ g
flat [] [] f g = refl
flat [] (x ∷ d) f g = ap (λ (z : List Entry). x ∷ z) (flat [] d f g)
flat (x ∷ c) d f g = ap (λ (z : List Entry). x ∷ z) (flat c d f g)

lined : (a b : List Entry) (e : Entry) (c d f g : List Entry) → ((a ++ (b ++ e ∷ c)) ++ d) ++ (f ++ g) ≡ (a ++ b) ++ e ∷ ((c ++ (d ++ f)) ++ g)
lined [] [] e c d f g = ap (λ (z : List Entry). e ∷ z) (flat c d f g)
lined [] (x ∷ b) e c d f g = ap (λ (z : List Entry). x ∷ z) (lined [] b e c d f g)
lined (x ∷ a) b e c d f g = ap (λ (z : List Entry). x ∷ z) (lined a b e c d f g)

-- One stands in what came first, the other one in what came behind it.
in_order : (one two : Entry) (front more late : List Entry) → IsIn one more → IsIn two late → (mid : List Entry)
    → StandInOrder one two (((front ++ more) ++ mid) ++ late)
in_order one two front more late i j mid = record {
  before = front ++ i.before;
  between = i.after ++ (mid ++ j.before);
  after = j.after;
  is = ap (λ (z : List Entry). ((front ++ z) ++ mid) ++ late) i.is ∙ (ap (λ (z : List Entry). ((front ++ (i.before ++ one ∷ i.after)) ++ mid) ++ z) j.is
      ∙ lined front i.before one i.after mid j.before (two ∷ j.after));
}

pub keep_order : StampsKeepOrder
keep_order first one two op op' reply reply' old new told heeded last w tells heeds v =
    let x : Entry = record { pass = one; op = op; reply = reply } in
    let y : Entry = record { pass = two; op = op'; reply = reply' } in
    let a = entered first one op reply old new w in
    let b = goes_on new told tells in
    let c = goes_on told heeded heeds in
    let d = entered first two op' reply' heeded last v in
    let is : history_of last ≡ ((history_of old ++ a.more) ++ (b.0 ++ c.0)) ++ d.more =
    d.grows ∙ ap (λ (z : List Entry). z ++ d.more) (c.1 ∙ (ap (λ (z : List Entry). z ++ c.0) (b.1 ∙ ap (λ (z : List Entry). z ++ b.0) a.grows)
    ∙ append_assoc (history_of old ++ a.more) b.0 c.0)) in
    subst (StandInOrder x y) (sym is) (in_order x y (history_of old) a.more d.more a.there d.there (b.0 ++ c.0))
