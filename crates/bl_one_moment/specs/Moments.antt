-- What was read of leaves that were not put since is what the map has at one moment.
use Rattle.std.specs.Prelude.{◌≡◌, ◌≢◌, ℕ, ◌+◌, ◌<◌, ◌≤◌, ◌++◌, ◌==◌, if◌then◌else◌, Some, List, [], ◌∷◌}
use Rattle.bl_model.specs.declared.operation.Reply.{Reply}
use Rattle.bl_model.specs.Map.{Map, ListsPairs}
use Rattle.bl_model.specs.History.{final_map}
use Rattle.bl_page.specs.declared.page.Page.{Page}
use Rattle.bl_page.specs.Machine.{State, Act}
use Rattle.bl_page.specs.Machine.Owner.{Retired}
use Rattle.bl_page.specs.Nodes.{node_of, IsTreePage}
use Rattle.bl_claims.specs.Trails.{Mark, Trail, history_of}
use Rattle.bl_claims.specs.Moments.{IsFresh}
use Rattle.bl_claims.specs.States.{Moment}
use Rattle.bl_claims.specs.Walks.{Each}

-- Two facts more of a state to which a trail has led: a retired page is dead; and a leaf or an inner page that was just got is none that
-- nothing leads to yet.
pub record IsFirm (now : State Page) (trail : Trail) : Type 0 where
  pub retired : (x time : ℕ) → now.owner x ≡ Retired time → IsTreePage (now.contents x) → ⊥
  pub got : (before : Trail) (m : Mark) (x : ℕ) → trail ≡ before ++ m ∷ [] → m.event.act ≡ Act.Get x → IsTreePage (now.contents x) → IsFresh now trail x → ⊥

pub record FirmMoment (first : Map) (start : State Page) (trail : Trail) : Type 0 where
  pub moment : Moment first start trail
  pub firm : IsFirm moment.now trail

-- every moment so far is one: after each beginning of the trail
abbrev pub HasFirmMoments : Map → State Page → Trail → Type 0
HasFirmMoments first start trail = (before after : Trail) → trail ≡ before ++ after → FirmMoment first start before

-- none of these events puts the page
abbrev pub PutsNone : ℕ → Trail → Type 0
PutsNone x marks = Each (λ (m : Mark). (c : Page) → m.event.act ≢ Act.Put x c) marks

abbrev pub put_of : ℕ → Act Page Reply → ℕ
put_of x (Act.Put y c) = if y == x then 1 else 0
put_of x act = 0

-- how often these events put the page
abbrev pub puts_at : ℕ → Trail → ℕ
puts_at x [] = 0
puts_at x (m ∷ ms) = put_of x m.event.act + puts_at x ms

-- Somebody got page x, which was c then, and nobody has put it since.
pub record IsKept (trail : Trail) (x : ℕ) (c : Page) : Type 0 where
  pub before : Trail
  pub get : Mark
  pub since : Trail
  pub split : trail ≡ before ++ get ∷ since
  pub act : get.event.act ≡ Act.Get x
  pub saw : get.saw ≡ Some c
  pub unput : PutsNone x since

-- Of a leaf that covers the keys from one up to another, these are the rows between them.
pub record IsLeafPart (from upto : ℕ) (c : Page) (rows : List (ℕ × ℕ)) : Type 0 where
  pub page : IsTreePage c
  pub leaf : (node_of c).shape.level ≡ 0
  pub low : (node_of c).shape.low ≤ from
  pub order : from ≤ upto
  pub end : upto ≤ (node_of c).shape.end
  pub lists : ListsPairs (node_of c).look (λ key. (from ≤ key) × (key < upto)) rows

-- leaves that were got, in any order and at any times, and not put since, each of which begins where the one before it ends; and their rows
pub data Adjoin (trail : Trail) : ℕ → ℕ → List (ℕ × ℕ) → Type 0 where
  Nothing : {key : ℕ} → Adjoin trail key key []
  Behind : {from mid upto : ℕ} {rows more : List (ℕ × ℕ)} (x : ℕ) (c : Page) → IsKept trail x c → IsLeafPart from mid c rows → Adjoin trail mid upto more
      → Adjoin trail from upto (rows ++ more)

-- the range from one key up to another, as the map has it after the trail
abbrev pub IsRange : Map → Trail → ℕ → ℕ → List (ℕ × ℕ) → Type 0
IsRange first trail from upto rows = ListsPairs (final_map first (history_of trail)) (λ key. (from ≤ key) × (key < upto)) rows
