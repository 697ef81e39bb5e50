-- What is known of the calls on a way: the tests that they come out so in, and the words of one of them.
use Rattle.std.specs.Prelude.{ℕ, ◌*◌, ◌<◌, ◌≤◌, ◌^◌, ◌≡◌, Bool, true, false, bit_and, IsTrue, List, slice_index_or}
use Rattle.std.specs.List.{All}
use Rattle.sk_insn.specs.declared.record.Record.{Record}
use Rattle.sk_insn.specs.Record.{architecture}
use Rattle.sk_filter.specs.Meaning.{holds}
use Rattle.sk_survey.specs.Answers.{IsCallOf}
use Rattle.sk_conditions.specs.declared.numbers.Numbers.{Numbers}
use Rattle.sk_conditions.specs.declared.path.Path.{Path}
use Rattle.sk_conditions.specs.declared.test.Test.{Test}
use Rattle.sk_conditions.specs.declared.tree.Tree.{Tree}
use Rattle.sk_conditions.specs.declared.tree.Tree.TheVariants.{Is, Untold, Ask'}
use Rattle.sk_conditions.specs.declared.way.Parted.{Parted}
use Rattle.sk_conditions.specs.declared.way.Parted.TheVariants.{Only, Both, Unknown}
use Rattle.sk_conditions.specs.Conditions.{holds_on}
use Rattle.sk_conditions.specs.Followed.{AreOfWords, is_word}
use Rattle.sk_conditions.specs.Following.{MeetsPath}
use Rattle.sk_conditions.specs.Meeting.{EachEndIsMet}
use Rattle.sk_conditions.specs.Solving.{WordMeets}

-- a call with one of the numbers that comes out so in the tests on the way
abbrev pub IsOn : Numbers → Path → Record → Type 0
IsOn numbers path call = IsCallOf numbers.first numbers.last call × MeetsPath path call

-- words that begin with one of the numbers and the architecture of x86-64
abbrev pub BeginCall : Numbers → List ℕ → Type 0
BeginCall numbers words =
    ((numbers.first ≤ slice_index_or words 0 0) × (slice_index_or words 0 0 ≤ numbers.last))
    × (slice_index_or words 1 0 ≡ architecture) × ((index : ℕ) → slice_index_or words index 0 < 2 ^ 32)

-- the words are those of a call with one of the numbers that comes out so in the tests on the way
abbrev pub ComesTo : Numbers → Path → List ℕ → Type 0
ComesTo numbers path words =
    AreOfWords path × BeginCall numbers words
    × ((index : ℕ) → index < 16 → WordMeets path (4 * index) (slice_index_or words index 0))

-- so they are behind one test more
abbrev pub ComesBehind : Numbers → Path → Test → Bool → List ℕ → Type 0
ComesBehind numbers path test answer words =
    (IsTrue (is_word test.place) × AreOfWords path) × BeginCall numbers words
    × ((index : ℕ) → index < 16
    → (test.place ≡ 4 * index → holds test.comparison (bit_and (slice_index_or words index 0) test.mask) test.k ≡ answer)
    × WordMeets path (4 * index) (slice_index_or words index 0))

-- a test comes out alike on all calls on the way, or there are calls on which it holds and others on which it fails
abbrev pub PartsSo : Numbers → Path → Test → Parted → Type 0
PartsSo numbers path test (Only answer) = (call : Record) → IsOn numbers path call → holds_on test call ≡ answer
PartsSo numbers path test (Both held failed) =
    ComesBehind numbers path test true held × ComesBehind numbers path test false failed
PartsSo numbers path test Unknown = Unit {0}

-- there are calls on the way, one of which at least comes to each end of a tree
abbrev pub IsMetOn : Numbers → Path → Tree → Type 0
IsMetOn numbers path tree = (calls : List Record) × All (IsOn numbers path) calls × EachEndIsMet calls tree

-- it has no test
abbrev pub IsEnd : Tree → Type 0
IsEnd (Is value) = Unit {0}
IsEnd Untold = Unit {0}
IsEnd (Ask' test p held q failed) = ⊥
