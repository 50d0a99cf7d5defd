-- What is decided is what the map answers.
use Rattle.std.proofs.Common.{◌≡◌, ◌≢◌, ℕ, Option, Some, None, true, false, refl, inl, inr, sym, ap, ◌∙◌, arith}
use Rattle.std.specs.Prelude.{◌==◌}
use Rattle.std.proofs.lemmas.Bool.{cases_eq}
use Rattle.bl_model.specs.declared.deciding.KeyWrite.{KeyWrite}
use Rattle.bl_model.specs.declared.deciding.KeyWrite.TheVariants.{Insert, Put, Delete, Change}
use Rattle.bl_model.specs.declared.operation.Reply.TheVariants as reply
use Rattle.bl_model.specs.Map.{Map, map_step, with_pair, without_key, SameMap}
use Rattle.bl_model.specs.Writes.{MayHave, decided, IsDecided, effect_of, write_op}
use Rattle.bl_model.proofs.Maps.{with_pair-same, with_pair-other, without_key-same, without_key-other}

-- a map that has at the key what another one gets, and at other keys what that has
changed_one : (m m' : Map) (key value : ℕ) → m' key ≡ Some value → ((j : ℕ) → j ≢ key → m' j ≡ m j) → SameMap (with_pair m key value) m'
changed_one m m' key value here rest j = elim (cases_eq j key) [
  | inl same ↦ ap m' same ∙ (here ∙ (sym (with_pair-same m key value) ∙ ap (with_pair m key value) (sym same)))
  | inr other ↦ rest j other ∙ sym (with_pair-other m key value j other)
]

gone_one : (m m' : Map) (key : ℕ) → m' key ≡ None → ((j : ℕ) → j ≢ key → m' j ≡ m j) → SameMap (without_key m key) m'
gone_one m m' key here rest j = elim (cases_eq j key) [
  | inl same ↦ ap m' same ∙ (here ∙ (sym (without_key-same m key) ∙ ap (without_key m key) (sym same)))
  | inr other ↦ rest j other ∙ sym (without_key-other m key j other)
]

kept_one : (m m' : Map) (key : ℕ) (there : Option ℕ) → m key ≡ there → m' key ≡ there → ((j : ℕ) → j ≢ key → m' j ≡ m j) → SameMap m m'
kept_one m m' key there was here rest j = elim (cases_eq j key) [
  | inl same ↦ ap m' same ∙ (here ∙ (sym was ∙ ap m (sym same)))
  | inr other ↦ rest j other
]

pub is_decided : (write : KeyWrite) (there : Option ℕ) → IsDecided write there (decided write there)
is_decided (Insert value) None = record {
  step = λ key m m' was here rest. record { answer = was; after = changed_one m m' key value here rest };
  fits = refl;
  told = refl;
  room = λ e. cc;
  refused = λ key m was change. was;
}
is_decided (Insert value) (Some there) = record {
  step = λ key m m' was here rest. record { answer = was; after = kept_one m m' key (Some there) was here rest };
  fits = tt;
  told = refl;
  room = λ e. cc;
  refused = λ key m was change. absurd (change refl);
}
is_decided (Put value) None = record {
  step = λ key m m' was here rest. record { answer = was; after = changed_one m m' key value here rest };
  fits = refl;
  told = refl;
  room = λ e. cc;
  refused = λ key m was change. tt;
}
is_decided (Put value) (Some there) = record {
  step = λ key m m' was here rest. record { answer = was; after = changed_one m m' key value here rest };
  fits = refl;
  told = refl;
  room = λ e. cc;
  refused = λ key m was change. tt;
}
is_decided Delete None = record {
  step = λ key m m' was here rest. record { answer = was; after = kept_one m m' key None was here rest };
  fits = tt;
  told = refl;
  room = λ e. cc;
  refused = λ key m was change. absurd (change refl);
}
is_decided Delete (Some there) = record {
  step = λ key m m' was here rest. record { answer = was; after = gone_one m m' key here rest };
  fits = refl;
  told = refl;
  room = λ e. cc;
  refused = λ key m was change. rw was refl;
}
is_decided (Change old new) None = record {
  step = λ key m m' was here rest. record { answer = was; after = kept_one m m' key None was here rest };
  fits = tt;
  told = refl;
  room = λ e. cc;
  refused = λ key m was change. absurd (change refl);
}
is_decided (Change old new) (Some there) = elim (cases_eq there old) [
  | inl same ↦ let e : (there == old) ≡ true = grind arith in rw e (record {
    step = λ key m m' was here rest. record { answer = was ∙ ap (λ z. Some z) same; after = changed_one m m' key new here rest };
    fits = refl;
    told = refl;
    room = λ e. cc;
    refused = λ key m was change. was ∙ ap (λ z. Some z) same;
  })
  | inr other ↦ let e : (there == old) ≡ false = grind (arith, other) in rw e (record {
    step = λ key m m' was here rest. record { answer = (was, other); after = kept_one m m' key (Some there) was here rest };
    fits = tt;
    told = refl;
    room = λ e. cc;
    refused = λ key m was change. absurd (change refl);
  })
]

pub may_have : (write : KeyWrite) (there : Option ℕ) → MayHave (effect_of write there) there
may_have write there = (is_decided write there).fits

-- no room leaves the map
pub refused_step : (key : ℕ) (write : KeyWrite) (m : Map) (k : ℕ) → m k ≡ map_step (write_op key write) reply.NoRoom m k
refused_step key (Insert value) m k = refl
refused_step key (Put value) m k = refl
refused_step key Delete m k = refl
refused_step key (Change old new) m k = refl
