-- What contracts see of a pass, and what an answer does to it.
use Rattle.std.specs.Prelude.{◌≡◌, ℕ, ◌+◌, Option, None, Some, List}
use Rattle.atomic_table.specs.Seated.{TableId}
use Rattle.drt_refine.specs.Facts.{AreInPlace}
use Rattle.drt_refine.specs.Machine.{FrontierSetting}
use Rattle.drt_frontier_board.specs.FrontierBoard.{KeepsCopy}
use Rattle.drt_frontier_board.specs.Replies.{frontier_logged, held_after}
use Rattle.drt_frontier_board.specs.declared.answer.FrontierAnswer.{FrontierAnswer}

-- A pass is its number, the count of its logged steps, the combination that it holds, the copy of that one's nodes (where it holds
-- none, of those that it was given or held last), and the frontier that it is of: its name and what it was started with.
pub record FrontierPassOf : Type 0 where
  pub number : ℕ
  pub count : ℕ
  pub held : Option ℕ
  pub nodes : List ℕ
  pub name : TableId
  pub setting : Option FrontierSetting

-- A shared frontier is its name, what it was started with, and how many passes it has.
pub record SharedFrontierOf : Type 0 where
  pub name : TableId
  pub setting : FrontierSetting
  pub passes : ℕ

-- The pass is one of the shared frontier: its copy has a node of the forest for each root, whose function goes to the deadline or
-- further.
pub record IsPassOfFrontier (s : SharedFrontierOf) (p : FrontierPassOf) : Type 0 where
  pub name : p.name ≡ s.name
  pub setting : p.setting ≡ Some s.setting
  pub nodes : AreInPlace s.setting p.nodes

-- The pass at that place, as `start` gives it.
pub record IsNewPass (s : SharedFrontierOf) (place : ℕ) (p : FrontierPassOf) : Type 0 where
  pub of_frontier : IsPassOfFrontier s p
  pub number : p.number ≡ place
  pub count : p.count ≡ 0
  pub held : p.held ≡ None

-- What an answer does to a pass: it keeps its number, counts what was logged, and holds what the answer says.
pub record HasMoved (old new : FrontierPassOf) (answer : FrontierAnswer) : Type 0 where
  pub number : new.number ≡ old.number
  pub count : new.count ≡ old.count + frontier_logged old.held answer
  pub held : new.held ≡ held_after old.held answer
  pub nodes : KeepsCopy answer old.nodes new.nodes
