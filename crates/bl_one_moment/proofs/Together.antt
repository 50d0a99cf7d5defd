-- What was read of leaves that were not put since is what the map has now.
use Rattle.std.proofs.Common.{ℕ, ◌≡◌, ◌+◌, ◌-◌, ◌<◌, ◌≤◌, ◌++◌, Some, List, [], ◌∷◌, length, ap, sym, refl, ◌∙◌, subst, inl, inr, arith, append-nil}
use Rattle.std.proofs.lemmas.Bool.{cases_lt}
use Rattle.std.proofs.lemmas.List.Elements.{Contains-append_left, Contains-append_right, Contains-append_cases}
use Rattle.bl_model.specs.Map.{Map, ListsPairs}
use Rattle.bl_model.specs.Rows.{key_at, HasRisingKeys}
use Rattle.bl_model.specs.History.{final_map}
use Rattle.bl_page.specs.declared.page.Page.{Page}
use Rattle.bl_page.specs.Machine.{State, Act}
use Rattle.bl_page.specs.Nodes.{Covers, node_of, IsTreePage}
use Rattle.bl_claims.specs.Trails.{Trail, history_of, Saw, LeadsOn}
use Rattle.bl_tree_worlds.proofs.Pushes.{LeadsOn-push}
use Rattle.bl_one_moment.specs.Moments.{HasFirmMoments, IsKept, Adjoin, IsRange}
use Rattle.bl_one_moment.specs.Moments.Adjoin.{Nothing, Behind}
use Rattle.bl_one_moment.proofs.Living.{live_get, firm_run, stays_live}
use Rattle.std.proofs.Common.{append_assoc, get_or, get_or-append-add, length-append}
use Rattle.std.proofs.lemmas.List.{get_or_append_left}
use Rattle.std.proofs.lemmas.List.Elements.{Contains-get_or}

pub leads_split : (s t : State Page) (xs ys : Trail) → LeadsOn s (xs ++ ys) t → (mid : State Page) × LeadsOn s xs mid × LeadsOn mid ys t
leads_split s t [] ys l = (s, refl, l)
leads_split s t (m ∷ xs) ys l = let r = leads_split l.0 t xs ys l.3 in (r.0, (l.0, l.1, l.2, r.1), r.2)

pub kept_agrees : (first : Map) (start : State Page) (trail : Trail) (x key : ℕ) (c : Page) → HasFirmMoments first start trail → IsKept trail x c → IsTreePage c → (node_of c).shape.level ≡ 0 → Covers (node_of c).shape key
    → (node_of c).look key ≡ final_map first (history_of trail) key
kept_agrees first start trail x key c firm kept kind leaf covers =
    let m = firm trail [] (sym (append-nil trail)) in
    let leads : LeadsOn start (kept.before ++ kept.get ∷ kept.since) m.moment.now = subst (λ (z : Trail). LeadsOn start z m.moment.now) kept.split m.moment.leads in
    let cut = leads_split start m.moment.now kept.before (kept.get ∷ kept.since) leads in
    let rest = cut.2 in
    let saw : Saw cut.0 (Act.Get x) kept.get.saw = subst (λ a. Saw cut.0 a kept.get.saw) kept.act rest.2 in
    let there : cut.0.contents x ≡ c = let e : Some (cut.0.contents x) ≡ Some c = sym saw ∙ kept.saw in cc in
    let split : trail ≡ (kept.before ++ kept.get ∷ []) ++ kept.since = kept.split ∙ sym (append_assoc kept.before (kept.get ∷ []) kept.since) in
    let leads_get : LeadsOn start (kept.before ++ kept.get ∷ []) rest.0 = LeadsOn-push start cut.0 rest.0 kept.before kept.get cut.1 rest.1 rest.2 in
    let is_firm = firm_run first start rest.0 (kept.before ++ kept.get ∷ []) (firm (kept.before ++ kept.get ∷ []) kept.since split) leads_get in
    let got = live_get cut.0 rest.0 kept.before kept.get x rest.1 kept.act is_firm (subst IsTreePage (sym there) kind) in
    let now = stays_live first start trail (kept.before ++ kept.get ∷ []) kept.since rest.0 m.moment.now x firm split leads_get rest.3 kept.unput got.0 in
    let same : m.moment.now.contents x ≡ c = now.1 ∙ (got.1 ∙ there) in
    let agree : (node_of (m.moment.now.contents x)).shape.level ≡ 0 → Covers (node_of (m.moment.now.contents x)).shape key → (node_of (m.moment.now.contents x)).look key ≡ final_map first (history_of trail) key
    = m.moment.laws.agreement x key now.0 in
    subst (λ (z : Page). (node_of z).shape.level ≡ 0 → Covers (node_of z).shape key → (node_of z).look key ≡ final_map first (history_of trail) key) same agree leaf covers

-- the same pairs, of another map that agrees where they are taken
lists_other : (m n : Map) (Takes : ℕ → Type 0) (rows : List (ℕ × ℕ)) → ((key : ℕ) → Takes key → m key ≡ n key) → ListsPairs m Takes rows → ListsPairs n Takes rows
lists_other m n Takes rows same l = record {
  rising = l.rising;
  pairs = λ key value. (
    (λ has. let h = (l.pairs key value).0 has in (sym (same key h.1) ∙ h.0, h.1)),
    (λ h. (l.pairs key value).1 (same key h.1 ∙ h.0, h.1)),
  );
}

row_in : (m : Map) (Takes : ℕ → Type 0) (rows : List (ℕ × ℕ)) (i : ℕ) → ListsPairs m Takes rows → i < length rows → Takes (key_at rows i)
row_in m Takes rows i l lt = let row : ℕ × ℕ = get_or rows i (0, 0) in ((l.pairs row.0 row.1).0 (Contains-get_or rows i (0, 0) lt)).1

key_left : (rows more : List (ℕ × ℕ)) (i : ℕ) → i < length rows → key_at (rows ++ more) i ≡ key_at rows i
key_left rows more i lt = ap (λ (r : ℕ × ℕ). r.0) (get_or_append_left rows more (0, 0) i lt)

key_right : (rows more : List (ℕ × ℕ)) (i : ℕ) → length rows ≤ i → key_at (rows ++ more) i ≡ key_at more (i - length rows)
key_right rows more i le =
    let back : length rows + (i - length rows) ≡ i = omega arith in
    ap (λ k. key_at (rows ++ more) k) (sym back) ∙ ap (λ (r : ℕ × ℕ). r.0) (get_or-append-add rows more (i - length rows) (0, 0))

rising_both : (m : Map) (from mid upto : ℕ) (rows more : List (ℕ × ℕ)) → ListsPairs m (λ key. (from ≤ key) × (key < mid)) rows → ListsPairs m (λ key. (mid ≤ key) × (key < upto)) more → HasRisingKeys (rows ++ more)
rising_both m from mid upto rows more l r i j lt inside = elim (cases_lt j (length rows)) [
  | inl low ↦
      let ki = key_left rows more i (omega arith) in
      let kj = key_left rows more j low in
      omega (arith, ki, kj, l.rising i j lt low)
  | inr behind ↦
      let long = length-append rows more in
      let kj = key_right rows more j behind in
      elim (cases_lt i (length rows)) [
        | inl low ↦
            let ki = key_left rows more i low in
            let a = (row_in m (λ key. (from ≤ key) × (key < mid)) rows i l low).1 in
            let b = (row_in m (λ key. (mid ≤ key) × (key < upto)) more (j - length rows) r (omega arith)).0 in
            omega arith
        | inr both ↦
            let ki = key_right rows more i both in
            omega (arith, ki, kj, r.rising (i - length rows) (j - length rows) (omega arith) (omega arith))
      ]
]

-- the rows of two ranges side by side are those of both
lists_both : (m : Map) (from mid upto : ℕ) (rows more : List (ℕ × ℕ)) → from ≤ mid → mid ≤ upto → ListsPairs m (λ key. (from ≤ key) × (key < mid)) rows → ListsPairs m (λ key. (mid ≤ key) × (key < upto)) more
    → ListsPairs m (λ key. (from ≤ key) × (key < upto)) (rows ++ more)
lists_both m from mid upto rows more first last l r = record {
  rising = rising_both m from mid upto rows more l r;
  pairs = λ key value. (
    (λ has. elim (Contains-append_cases rows more (key, value) has) [
      | inl h ↦ let k = (l.pairs key value).0 h in let up = k.1.1 in (k.0, (k.1.0, omega arith))
      | inr h ↦ let k = (r.pairs key value).0 h in let low = k.1.0 in (k.0, (omega arith, k.1.1))
    ]),
    (λ h. elim (cases_lt key mid) [
      | inl low ↦ Contains-append_left rows more (key, value) ((l.pairs key value).1 (h.0, (h.1.0, low)))
      | inr high ↦ Contains-append_right rows more (key, value) ((r.pairs key value).1 (h.0, (high, h.1.1)))
    ]),
  );
}

lists_none : (m : Map) (key : ℕ) → ListsPairs m (λ k. (key ≤ k) × (k < key)) []
lists_none m key = record {
  rising = λ i j lt inside. absurd (omega arith);
  pairs = λ k value. ((λ has. let lt = has.1 in absurd (omega arith)), λ h. let low = h.1.0 in let high = h.1.1 in absurd (omega arith));
}

adjoin_order : {trail : Trail} {from upto : ℕ} {rows : List (ℕ × ℕ)} → Adjoin trail from upto rows → from ≤ upto
adjoin_order Nothing = omega arith
adjoin_order (Behind x c kept part rest) = let order = part.order in let further = adjoin_order rest in omega arith

pub range_agrees : (first : Map) (start : State Page) (trail : Trail) (from upto : ℕ) (rows : List (ℕ × ℕ)) → HasFirmMoments first start trail → Adjoin trail from upto rows → IsRange first trail from upto rows
range_agrees first start trail from upto rows firm Nothing = lists_none (final_map first (history_of trail)) from
range_agrees first start trail from upto rows firm (Behind {from = a} {mid} {upto = b} {rows = xs} {more} x c kept part rest) =
    let m : Map = final_map first (history_of trail) in
    let here : ListsPairs m (λ key. (a ≤ key) × (key < mid)) xs = lists_other (node_of c).look m (λ key. (a ≤ key) × (key < mid)) xs
    (λ key takes. kept_agrees first start trail x key c firm kept part.page part.leaf (let low = part.low in let end = part.end in let lo = takes.0 in let hi = takes.1 in (omega arith, omega arith))) part.lists in
    lists_both m a mid b xs more part.order (adjoin_order rest) here (range_agrees first start trail mid b more firm rest)
