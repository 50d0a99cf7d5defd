-- A row is changed by a function of its value, try by try.
use Rattle.std.proofs.Common.{ℕ, ◌≡◌, ◌≢◌, ◌++◌, List, Option, refl, sym, ap, ◌∙◌, subst}
use Rattle.bl_model.specs.declared.operation.Op.{Op as Operation}
use Rattle.bl_model.specs.declared.operation.Op.TheVariants as op
use Rattle.bl_model.specs.declared.operation.Reply.{Reply}
use Rattle.bl_model.specs.declared.operation.Reply.TheVariants as reply
use Rattle.bl_model.specs.declared.operation.KeyReply.{KeyReply}
use Rattle.bl_model.specs.declared.operation.KeyReply.TheVariants as told
use Rattle.bl_model.specs.Replies.{reply_of}
use Rattle.bl_model.specs.History.{final_map}
use Rattle.bl_model.specs.Map.{Map, MayAnswer}
use Rattle.bl_page.specs.declared.page.Page.{Page}
use Rattle.bl_claims.specs.Trails.{Trail, history_of}
use Rattle.bl_claims.specs.Seeing.{first_map, IsLinearizable, GoesOnFrom}
use Rattle.bl_index_range.proofs.Told.{answered, history_append}
use Rattle.bl_map_calls.specs.declared.updating.Updated.{Updated}
use Rattle.bl_map_calls.specs.declared.updating.Updated.TheVariants.{Changed, Absent, NoRoom}
use Rattle.bl_waiting.specs.declared.waiting.Waiting.{Waiting}
use Rattle.bl_map_calls.specs.Updates.{Tried, Ended, Updates, ends_as}
use Rattle.bl_map_calls.specs.Waits.{WritesKey}
use Rattle.bl_map_calls.specs.Works.{Works, Searched}
use Rattle.bl_map_calls.proofs.Following.{changes_works}
use Rattle.bl_map_calls.proofs.Writing.{on_from}

-- a call of a key is answered as the map answers it
works_may : (first : List (Option Page)) (pass : ℕ) (o : Operation) (said : Reply) (old new : Trail) → Works first pass o said old new → (m : Map) × MayAnswer m o said
works_may first pass o said old new w =
    let more = w.begins.0 in
    let there = answered (first_map first) pass (record { pass = pass; op = o; reply = said }) (history_of old) (history_of more) (history_of new) (ap history_of w.begins.1 ∙ history_append old more) w.seen.legal w.once in
    (final_map (first_map first) (history_of old ++ there.before), there.may)

-- a search that has found nothing is answered that the key is absent
find_absent : (m : Map) (key : ℕ) (said : KeyReply) → MayAnswer m (op.Find key) (reply_of said) → ((value : ℕ) → said ≢ told.Found value) → said ≡ told.Absent
find_absent m key (told.Found value) may other = absurd (other value refl)
find_absent m key told.Absent may other = refl
find_absent m key said may other = absurd may

-- a change that is neither made nor refused, and was told of no other value, is answered so too
change_absent : (m : Map) (key was next : ℕ) (said : KeyReply) → MayAnswer m (op.Change key was next) (reply_of said) → said ≢ told.Changed → ((value : ℕ) → said ≢ told.Differs value) → said ≢ told.NoRoom → said ≡ told.Absent
change_absent m key was next told.Changed may changed differs refused = absurd (changed refl)
change_absent m key was next (told.Differs value) may changed differs refused = absurd (differs value refl)
change_absent m key was next told.NoRoom may changed differs refused = absurd (refused refl)
change_absent m key was next told.Absent may changed differs refused = refl
change_absent m key was next said may changed differs refused = absurd may

-- what was seen up to the last value
pub record HasTried {F : Type 0} (gives : F → ℕ → ℕ → F → Type 0) (first : List (Option Page)) (pages pass key value : ℕ) (f g : F) (before mid : Waiting) (old new : Trail) : Type 0 where
  pub begins : GoesOnFrom old new
  pub seen : IsLinearizable first new
  pub tried : Tried gives first pages pass key value f g before mid old new

module _ {F : Type 0} (gives : F → ℕ → ℕ → F → Type 0) (first : List (Option Page)) (pages pass key : ℕ) where
  pub saw : (value : ℕ) (said : KeyReply) (f : F) (waiting : Waiting) (old new : Trail) → said ≡ told.Found value → Works first pass (op.Find key) (reply_of said) old new
      → Searched first pages pass (op.Find key) (reply_of said) old new → HasTried gives first pages pass key value f f waiting waiting old new
  saw value said f waiting old new is w s = record {
    begins = w.begins;
    seen = w.seen;
    tried = Tried.Saw (subst (λ (z : KeyReply). Searched first pages pass (op.Find key) (reply_of z) old new) is s);
  }

  pub not_there : (said : KeyReply) (f : F) (waiting : Waiting) (old new : Trail) → ((value : ℕ) → said ≢ told.Found value) → Works first pass (op.Find key) (reply_of said) old new
      → Searched first pages pass (op.Find key) (reply_of said) old new → Updates gives first pages pass key Absent f f waiting waiting old new
  not_there said f waiting old new other w s =
      let may = works_may first pass (op.Find key) (reply_of said) old new w in
      let is = find_absent may.0 key said may.1 other in
      record {
        begins = w.begins;
        seen = w.seen;
        ended = Ended.NotThere (subst (λ (z : KeyReply). Searched first pages pass (op.Find key) (reply_of z) old new) is s);
      }

  module _ (it value next : ℕ) (said : KeyReply) (f g h : F) (before mid after : Waiting) (old between new : Trail) (same : it ≡ pass)
      (t : HasTried gives first pages pass key value f g before mid old between) (one : gives g value next h)
      (c : WritesKey first it (op.Change key value next) (reply_of said) mid after between new) where
    mine : WritesKey first pass (op.Change key value next) (reply_of said) mid after between new
    mine = subst (λ (z : ℕ). WritesKey first z (op.Change key value next) (reply_of said) mid after between new) same c

    works : Works first pass (op.Change key value next) (reply_of said) between new
    works = changes_works first pass (op.Change key value next) (reply_of said) mid after between new mine

    pub differed : (other : ℕ) → said ≡ told.Differs other → HasTried gives first pages pass key other f h before after old new
    differed other is = record {
      begins = on_from old between new t.begins works.begins;
      seen = works.seen;
      tried = Tried.Differed t.tried one (subst (λ (z : KeyReply). WritesKey first pass (op.Change key value next) (reply_of z) mid after between new) is mine);
    }

    settled : (answer : Updated) → ends_as value next (reply_of said) answer → Updates gives first pages pass key answer f h before after old new
    settled answer ends = record {
      begins = on_from old between new t.begins works.begins;
      seen = works.seen;
      ended = Ended.Settled t.tried one mine ends;
    }

    pub gone : said ≢ told.Changed → ((other : ℕ) → said ≢ told.Differs other) → said ≢ told.NoRoom → Updates gives first pages pass key Absent f h before after old new
    gone changed differs refused =
        let may = works_may first pass (op.Change key value next) (reply_of said) between new works in
        let is = change_absent may.0 key value next said may.1 changed differs refused in
        settled Absent (subst (λ (z : KeyReply). ends_as value next (reply_of z) Absent) (sym is) tt)

    pub changed : said ≡ told.Changed → Updates gives first pages pass key (Changed value next) f h before after old new
    changed is = settled (Changed value next) (subst (λ (z : KeyReply). ends_as value next (reply_of z) (Changed value next)) (sym is) (refl, refl))

    pub had_no_room : said ≡ told.NoRoom → Updates gives first pages pass key NoRoom f h before after old new
    had_no_room is = settled NoRoom (subst (λ (z : KeyReply). ends_as value next (reply_of z) NoRoom) (sym is) tt)
