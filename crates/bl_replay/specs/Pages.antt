-- The text of what stands in a page, a line behind the event that put it there.
use Rattle.std.specs.Prelude.{ℕ, Bool, true, false, Option, Some, None, List, [], ◌++◌, codes, decimal, flat_map, slice_get}
use Rattle.bl_serve_lines.specs.Text.{numbered}
use Rattle.bl_page.specs.declared.page.Page.{Page}
use Rattle.bl_page.specs.declared.page.Page.TheVariants as page
use Rattle.bl_answers.specs.declared.answers.Answer.{Answer}
use Rattle.bl_world.specs.declared.turns.Act.{Act}
use Rattle.bl_world.specs.declared.turns.Act.TheVariants as act
use Rattle.bl_world.specs.declared.turns.Event.{Event}
use Rattle.bl_replay.specs.Texts.{event_line, answer_line}

-- a number behind a space
abbrev pub number_text : ℕ → List ℕ
number_text x = codes " " ++ decimal x

-- a row: its key and its value; or a child: the least key in it, and its number
abbrev pub pair_text : ℕ × ℕ → List ℕ
pair_text pair = number_text pair.0 ++ number_text pair.1

-- what stands in a page: its kind, its level where it may be of any, what it covers and where it leads, and its entries
abbrev pub content_text : Page → List ℕ
content_text (page.Anchor a) = codes "anchor" ++ flat_map number_text a.leftmost.items
content_text (page.Leaf l) = codes "leaf" ++ number_text l.low ++ number_text l.high ++ number_text l.right ++ flat_map pair_text l.rows.items
content_text (page.Inner i) =
    codes "inner" ++ number_text i.level ++ number_text i.low ++ number_text i.high ++ number_text i.right ++ flat_map pair_text i.children.items
content_text (page.Dead d) = codes "dead" ++ number_text d.level ++ number_text d.low ++ number_text d.right

-- the line of what the process with that number has put into page x
abbrev pub page_line : ℕ → ℕ → Page → List ℕ
page_line number x c = numbered number (codes "page " ++ decimal x ++ codes " " ++ content_text c)

-- the same, where there is such a page
abbrev pub page_line_if : ℕ → ℕ → Option Page → List ℕ
page_line_if number x (Some c) = page_line number x c
page_line_if number x None = []

-- the line of the page that an act put, as it stands among these pages; no other act has one
abbrev pub act_page : ℕ → Act → List Page → List ℕ
act_page number (act.Put x) pages = page_line_if number x (slice_get pages x)
act_page number a pages = []

-- the same of an event, where pages are wanted
abbrev pub put_text : Bool → Event → List Page → List ℕ
put_text true e pages = act_page e.process e.act pages
put_text false e pages = []

-- The text is the plain one with lines of pages between its lines, which are of events and of answers.
pub data AddsPages : List ℕ → List ℕ → Type 0 where
  Nothing : AddsPages [] []
  OfEvent : (plain text : List ℕ) (e : Event) → AddsPages plain text → AddsPages (plain ++ event_line e) (text ++ event_line e)
  OfAnswer : (plain text : List ℕ) (number : ℕ) (a : Answer) → AddsPages plain text → AddsPages (plain ++ answer_line number a) (text ++ answer_line number a)
  OfPage : (plain text : List ℕ) (number x : ℕ) (c : Page) → AddsPages plain text → AddsPages plain (text ++ page_line number x c)
