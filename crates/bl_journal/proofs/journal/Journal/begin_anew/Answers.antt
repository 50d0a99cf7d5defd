use Rattle.std.proofs.Common.{◌≡◌, ◌⊎◌, inl, inr, ⊎_elim, ℕ, ◌+◌, ◌/◌, ◌%◌, List, [], ◌++◌, Option, length, sym, subst, arith}
use Rattle.std.specs.Prelude.{replicate}
use Rattle.bl_journal.specs.Files.{Only}
use Rattle.bl_journal.specs.Rows.{IsLeft}
use Rattle.bl_journal.specs.Logs.{IsLogOf, EndsIn, HasRoom}
use Rattle.bl_journal.specs.Parts.{IsNewLog}
use Rattle.bl_journal.proofs.Moments.{started, by_call}
use Rattle.bl_journal.proofs.Filling.{log_of_room, room_as}
use Rattle.bl_journal.proofs.Anew.{new_room, new_long, new_ends}
use Rattle.bl_journal.proofs.Keeping.{keeps_room}
use Rattle.bl_journal.proofs.journal.Journal.begin_anew.Goals as goal

-- the new log is that of the map
new_is_log : (salt : ℕ) (rows : List (ℕ × ℕ)) (bytes : List ℕ) (m : ℕ → Option ℕ) (zeros : ℕ) → IsNewLog salt rows bytes → IsLeft rows [] m → zeros % 8 ≡ 0
    → HasRoom (bytes ++ replicate zeros 0) salt (length bytes) (length bytes + zeros) m
new_is_log salt rows bytes m zeros new left even = new_room salt rows bytes m zeros (zeros / 8) new left (omega (arith, even))

pub room_behind-zeros-requires : goal.room_behind-zeros-requires
room_behind-zeros-requires g c =
    let long = new_long c.args.self.now.salt c.args.rows.now c.in_ok-bytes.bytes.items c.in_ok-bytes.ensures in
    (omega (arith, long, c.len.ensures), omega (arith, c.len.ensures))

pub returns-in_err-bytes-clause-any_moment : goal.returns-in_err-bytes-clause-any_moment
returns-in_err-bytes-clause-any_moment g c = λ modelled m left.
    started g.D.Device.moment g.D.Device.leaves c.args.self.now.device (λ f. g.D.Device.leaves c.args.self.now.device (g.D.Device.moment c.args.self.now.device) f ⊎ IsLogOf f m)
    (λ f was. inl was)

pub returns-in_err-replace-clause-any_moment : goal.returns-in_err-replace-clause-any_moment
returns-in_err-replace-clause-any_moment g c = λ modelled m left.
    let bytes : List ℕ = c.as_slice.result.now in
    let salt : ℕ = c.args.self.now.salt in
    let zeros : ℕ = c.room_behind-zeros.result in
    let new : IsNewLog salt c.args.rows.now bytes = subst (λ (l : List ℕ). IsNewLog salt c.args.rows.now l) (sym c.as_slice.ensures.value) c.in_ok-bytes.ensures in
    let log : IsLogOf (bytes ++ replicate zeros 0) m = log_of_room _ salt _ _ m (new_is_log salt c.args.rows.now bytes m zeros new left c.room_behind-zeros.ensures.0) in
    by_call g.D.Device.moment g.D.Device.leaves c.args.self.now.device c.replace.new.self
    (λ f. g.D.Device.leaves c.args.self.now.device (g.D.Device.moment c.args.self.now.device) f ⊎ IsLogOf f m) _ (c.replace.ensures.crash modelled)
    (λ was f left_now does. ⊎_elim (λ old. inl (subst (λ (l : List ℕ). g.D.Device.leaves c.args.self.now.device (g.D.Device.moment c.args.self.now.device) l) (sym old) left_now))
    (λ is. inr (subst (λ (l : List ℕ). IsLogOf l m) (sym is) log)) does)

pub returns-clause-any_moment : goal.returns-clause-any_moment
returns-clause-any_moment g c = λ modelled m left.
    let bytes : List ℕ = c.as_slice.result.now in
    let salt : ℕ = c.args.self.now.salt in
    let zeros : ℕ = c.room_behind-zeros.result in
    let new : IsNewLog salt c.args.rows.now bytes = subst (λ (l : List ℕ). IsNewLog salt c.args.rows.now l) (sym c.as_slice.ensures.value) c.in_ok-bytes.ensures in
    let log : IsLogOf (bytes ++ replicate zeros 0) m = log_of_room _ salt _ _ m (new_is_log salt c.args.rows.now bytes m zeros new left c.room_behind-zeros.ensures.0) in
    by_call g.D.Device.moment g.D.Device.leaves c.args.self.now.device c.replace.new.self
    (λ f. g.D.Device.leaves c.args.self.now.device (g.D.Device.moment c.args.self.now.device) f ⊎ IsLogOf f m) _ (c.replace.ensures.crash modelled)
    (λ was f left_now does. ⊎_elim (λ old. inl (subst (λ (l : List ℕ). g.D.Device.leaves c.args.self.now.device (g.D.Device.moment c.args.self.now.device) l) (sym old) left_now))
    (λ is. inr (subst (λ (l : List ℕ). IsLogOf l m) (sym is) log)) does)

pub returns-clause-kept : goal.returns-clause-kept
returns-clause-kept g c = λ modelled m left.
    let bytes : List ℕ = c.as_slice.result.now in
    let salt : ℕ = c.args.self.now.salt in
    let zeros : ℕ = c.room_behind-zeros.result in
    let new : IsNewLog salt c.args.rows.now bytes = subst (λ (l : List ℕ). IsNewLog salt c.args.rows.now l) (sym c.as_slice.ensures.value) c.in_ok-bytes.ensures in
    let seen = c.in_ok-replace.ensures.replaced modelled in
    let is_end : c.len-self.result ≡ length bytes = omega (arith, c.len-self.ensures, c.as_slice.ensures.len) in
    let is_size : c.len-2.result + zeros ≡ length bytes + zeros = omega (arith, c.len-2.ensures, c.as_slice.ensures.len) in
    let room : HasRoom (g.D.Device.seen c.replace.new.self) salt c.len-self.result (c.len-2.result + zeros) m =
    room_as (bytes ++ replicate zeros 0) (g.D.Device.seen c.replace.new.self) salt (length bytes) c.len-self.result (length bytes + zeros) (c.len-2.result + zeros) m
    seen is_end is_size (new_is_log salt c.args.rows.now bytes m zeros new left c.room_behind-zeros.ensures.0) in
    let only = subst (λ (l : List ℕ). Only l (g.D.Device.leaves c.replace.new.self (g.D.Device.moment c.replace.new.self))) (sym seen) (c.in_ok-replace.ensures.durable modelled) in
    keeps_room g.D.Device.seen g.D.Device.moment g.D.Device.leaves m _ room only

pub returns-clause-ends : goal.returns-clause-ends
returns-clause-ends g c = λ modelled last.
    let bytes : List ℕ = c.as_slice.result.now in
    let salt : ℕ = c.args.self.now.salt in
    let zeros : ℕ = c.room_behind-zeros.result in
    let new : IsNewLog salt c.args.rows.now bytes = subst (λ (l : List ℕ). IsNewLog salt c.args.rows.now l) (sym c.as_slice.ensures.value) c.in_ok-bytes.ensures in
    let even = c.room_behind-zeros.ensures.0 in
    subst (λ (l : List ℕ). EndsIn l last) (sym (c.in_ok-replace.ensures.replaced modelled)) (new_ends salt c.args.rows.now bytes last zeros (zeros / 8) new (omega (arith, even)))
