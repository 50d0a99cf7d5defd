use Rattle.std.proofs.Common.{◌≡◌, ◌⊎◌, inl, ℕ, ◌+◌, ◌*◌, length, List, refl, sym, ◌∙◌, ap, subst, arith}
use Rattle.bl_journal.specs.Files.{IsFilled, Fills, Only}
use Rattle.bl_image.specs.Images.{word_bytes}
use Rattle.bl_journal.specs.Records.{body_words}
use Rattle.bl_journal.specs.Logs.{IsLogOf, EndsIn}
use Rattle.bl_image.proofs.Chunks.{length-word_bytes}
use Rattle.bl_journal.proofs.Moments.{started, goes_on, by_call}
use Rattle.bl_journal.proofs.Filling.{are_zeros, fill_crash, fill_room, fill_ends, room_as}
use Rattle.bl_journal.proofs.Keeping.{leaves_log, keeps_room}
use Rattle.bl_journal.proofs.journal.Journal.append.Goals as goal

pub fill-requires : goal.fill-requires
fill-requires g c = record {
  zeros = λ modelled.
      let some = c.requires.kept modelled in
      let is : c.as_slice.result.now ≡ word_bytes c.args.words.now = c.as_slice.ensures.value ∙ c.in_ok-bytes.ensures.bytes in
      let long = length-word_bytes c.args.words.now in
      let r = some.1.room (omega (arith, c.requires.room.0, c.requires.some)) in
      are_zeros _ c.args.self.now.salt c.args.self.now.end c.args.self.now.size some.0 r (length c.as_slice.result.now) (omega (arith, ap length is, long, c.requires.room.0));
}

pub returns-in_err-bytes-clause-any_moment : goal.returns-in_err-bytes-clause-any_moment
returns-in_err-bytes-clause-any_moment g c = λ modelled old new came went keeps begins leads.
    started g.D.Device.moment g.D.Device.leaves c.args.self.now.device (λ f. IsLogOf f old ⊎ IsLogOf f new)
    (λ f was. inl (leaves_log g.D.Device.seen g.D.Device.moment g.D.Device.leaves old c.args.self.now keeps f was))

pub returns-in_err-fill-clause-any_moment : goal.returns-in_err-fill-clause-any_moment
returns-in_err-fill-clause-any_moment g c = λ modelled old new came went keeps begins leads.
    let is : c.as_slice.result.now ≡ word_bytes c.args.words.now = c.as_slice.ensures.value ∙ c.in_ok-bytes.ensures.bytes in
    let seen : List ℕ = g.D.Device.seen c.args.self.now.device in
    let r = keeps.room (omega (arith, c.requires.room.0, c.requires.some)) in
    by_call g.D.Device.moment g.D.Device.leaves c.args.self.now.device c.fill.new.self (λ f. IsLogOf f old ⊎ IsLogOf f new) _ (c.fill.ensures.crash modelled)
    (λ was f before does. fill_crash seen c.args.self.now.salt c.args.self.now.end c.args.self.now.size old r c.args.words.now came went new begins c.in_ok-bytes.ensures.fits leads f
    (subst (λ (l : List ℕ). Fills c.args.self.now.end l seen f) is (subst (λ (l : List ℕ). Fills c.args.self.now.end c.as_slice.result.now l f) (keeps.durable was before) does)))

pub returns-in_err-sync-clause-any_moment : goal.returns-in_err-sync-clause-any_moment
returns-in_err-sync-clause-any_moment g c = λ modelled old new came went keeps begins leads.
    let is : c.as_slice.result.now ≡ word_bytes c.args.words.now = c.as_slice.ensures.value ∙ c.in_ok-bytes.ensures.bytes in
    let seen : List ℕ = g.D.Device.seen c.args.self.now.device in
    let r = keeps.room (omega (arith, c.requires.room.0, c.requires.some)) in
    let P = λ (f : List ℕ). IsLogOf f old ⊎ IsLogOf f new in
    let filled = by_call g.D.Device.moment g.D.Device.leaves c.args.self.now.device c.fill.new.self P _ (c.fill.ensures.crash modelled)
    (λ was f before does. fill_crash seen c.args.self.now.salt c.args.self.now.end c.args.self.now.size old r c.args.words.now came went new begins c.in_ok-bytes.ensures.fits leads f
    (subst (λ (l : List ℕ). Fills c.args.self.now.end l seen f) is (subst (λ (l : List ℕ). Fills c.args.self.now.end c.as_slice.result.now l f) (keeps.durable was before) does))) in
    goes_on g.D.Device.moment g.D.Device.leaves c.args.self.now.device c.fill.new.self c.sync.new.self P _ filled (c.sync.ensures.crash (c.fill.ensures.same modelled))
    (λ was f before same. subst P (sym same) (filled.each _ was filled.later (omega arith) before))

pub returns-clause-any_moment : goal.returns-clause-any_moment
returns-clause-any_moment g c = λ modelled old new came went keeps begins leads.
    let is : c.as_slice.result.now ≡ word_bytes c.args.words.now = c.as_slice.ensures.value ∙ c.in_ok-bytes.ensures.bytes in
    let seen : List ℕ = g.D.Device.seen c.args.self.now.device in
    let r = keeps.room (omega (arith, c.requires.room.0, c.requires.some)) in
    let P = λ (f : List ℕ). IsLogOf f old ⊎ IsLogOf f new in
    let filled = by_call g.D.Device.moment g.D.Device.leaves c.args.self.now.device c.fill.new.self P _ (c.fill.ensures.crash modelled)
    (λ was f before does. fill_crash seen c.args.self.now.salt c.args.self.now.end c.args.self.now.size old r c.args.words.now came went new begins c.in_ok-bytes.ensures.fits leads f
    (subst (λ (l : List ℕ). Fills c.args.self.now.end l seen f) is (subst (λ (l : List ℕ). Fills c.args.self.now.end c.as_slice.result.now l f) (keeps.durable was before) does))) in
    goes_on g.D.Device.moment g.D.Device.leaves c.args.self.now.device c.fill.new.self c.sync.new.self P _ filled (c.sync.ensures.crash (c.fill.ensures.same modelled))
    (λ was f before same. subst P (sym same) (filled.each _ was filled.later (omega arith) before))

pub overflow_add-self : goal.overflow_add-self
overflow_add-self g c =
    let is : c.as_slice.result.now ≡ word_bytes c.args.words.now = c.as_slice.ensures.value ∙ c.in_ok-bytes.ensures.bytes in
    omega (arith, ap length is, length-word_bytes c.args.words.now, c.as_slice.ensures.len, c.len.ensures, c.requires.room.0, c.requires.room.1)

pub returns-clause-kept : goal.returns-clause-kept
returns-clause-kept g c = λ modelled old new came went keeps begins leads.
    let is : c.as_slice.result.now ≡ word_bytes c.args.words.now = c.as_slice.ensures.value ∙ c.in_ok-bytes.ensures.bytes in
    let seen : List ℕ = g.D.Device.seen c.args.self.now.device in
    let long = length-word_bytes c.args.words.now in
    let r = keeps.room (omega (arith, c.requires.room.0, c.requires.some)) in
    let same = c.fill.ensures.same modelled in
    let after : List ℕ = g.D.Device.seen c.fill.new.self in
    let filled : IsFilled seen c.args.self.now.end (word_bytes c.args.words.now) after = subst (λ (l : List ℕ). IsFilled seen c.args.self.now.end l after) is (c.in_ok-fill.ensures.filled modelled) in
    let room = fill_room seen c.args.self.now.salt c.args.self.now.end c.args.self.now.size old r c.args.words.now came went new begins c.in_ok-bytes.ensures.fits leads after c.requires.room.0 filled in
    let is_end : c.args.self.now.end + c.len.result ≡ c.args.self.now.end + 8 * length c.args.words.now = omega (arith, ap length is, long, c.as_slice.ensures.len, c.len.ensures) in
    keeps_room g.D.Device.seen g.D.Device.moment g.D.Device.leaves new _
    (room_as after (g.D.Device.seen c.sync.new.self) c.args.self.now.salt _ _ c.args.self.now.size c.args.self.now.size new (c.in_ok-sync.ensures.seen same) is_end refl room)
    (subst (λ (l : List ℕ). Only l (g.D.Device.leaves c.sync.new.self (g.D.Device.moment c.sync.new.self))) (sym (c.in_ok-sync.ensures.seen same)) (c.in_ok-sync.ensures.durable same))

pub returns-clause-ends : goal.returns-clause-ends
returns-clause-ends g c = λ modelled came went begins.
    let is : c.as_slice.result.now ≡ word_bytes c.args.words.now = c.as_slice.ensures.value ∙ c.in_ok-bytes.ensures.bytes in
    let some = c.requires.kept modelled in
    let seen : List ℕ = g.D.Device.seen c.args.self.now.device in
    let r = some.1.room (omega (arith, c.requires.room.0, c.requires.some)) in
    let after : List ℕ = g.D.Device.seen c.fill.new.self in
    let filled : IsFilled seen c.args.self.now.end (word_bytes c.args.words.now) after = subst (λ (l : List ℕ). IsFilled seen c.args.self.now.end l after) is (c.in_ok-fill.ensures.filled modelled) in
    subst (λ (l : List ℕ). EndsIn l (body_words came went)) (sym (c.in_ok-sync.ensures.seen (c.fill.ensures.same modelled)))
    (fill_ends seen c.args.self.now.salt c.args.self.now.end c.args.self.now.size some.0 r c.args.words.now came went begins after c.in_ok-bytes.ensures.fits filled)
