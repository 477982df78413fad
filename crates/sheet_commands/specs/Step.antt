-- What the bytes from a command on come to: "Within a command: 1 for the command byte, 2, 1 for operands". Each step gives a byte
-- or a refusal, and a refusal is passed on.
use Rattle.std.specs.Prelude.{ℕ, ◌≡◌, List, [], ◌∷◌, Bool, cond, ◌||◌, eqb, length, drop, Result, Ok, Err, MatchResult}
use Rattle.format.specs.declared.Form.{Form}
use Rattle.format.specs.declared.Refusal.{Refusal}
use Rattle.format.specs.declared.Refusal.TheVariants.{Missing, Command as CommandRefusal}
use Rattle.format.specs.Sheet.{takes_two, takes_none}
use Rattle.sheet_commands.specs.declared.command.Command.{Command}
use Rattle.sheet_commands.specs.declared.command.Command.TheVariants.{Nodes, Tree, Dominance, Label, Differ, End}
use Rattle.sheet_commands.specs.declared.command.Kind.{Kind}
use Rattle.sheet_commands.specs.declared.command.Kind.TheVariants.{Nodes as NodesKind, Tree as TreeKind, Dominance as DominanceKind, Label as LabelKind, Differ as DifferKind, End as EndKind}

-- 1: "a needed byte is missing"
unfoldable pub byte_of : List ℕ → Result ℕ Refusal
byte_of [] = Err Missing
byte_of (b ∷ rest) = Ok b

-- the byte of a command
abbrev pub code_of : Kind → ℕ
code_of EndKind = 0
code_of NodesKind = 1
code_of TreeKind = 2
code_of DominanceKind = 3
code_of LabelKind = 5
code_of DifferKind = 6

-- the kind with this byte, or 2 where there is none
abbrev pub Codes : ℕ → Result Kind Refusal → Type 0
Codes b r = MatchResult r (λ k. code_of k ≡ b) (λ why. (why ≡ CommandRefusal) × ((k : Kind) → code_of k ≡ b → ⊥))

-- 2: "the command byte is unknown or out of place, or a byte follows the end"; the sheet's form, whether the byte comes first, and
-- the number of bytes from it on
unfoldable pub placed : Form → Bool → ℕ → ℕ → Bool
placed form first b left = cond first (eqb b 1) (cond (eqb b 0) (eqb left 1) (takes_two form b || takes_none form b))

-- a refusal is passed on
abbrev pub with_byte : {T : Type 0} → Result ℕ Refusal → (ℕ → Result T Refusal) → Result T Refusal
with_byte (Ok b) f = f b
with_byte (Err why) f = Err why

-- the command byte: 1, then 2
abbrev pub in_place : Form → Bool → ℕ → Result ℕ Refusal → Result ℕ Refusal
in_place form first left (Ok b) = cond (placed form first b left) (Ok b) (Err CommandRefusal)
in_place form first left (Err why) = Err why

unfoldable pub command_of : Form → Bool → List ℕ → Result ℕ Refusal
command_of form first bs = in_place form first (length bs) (byte_of bs)

-- the kind is that of the command byte, and a refusal is the same
abbrev pub IsKindOf : Result ℕ Refusal → Result Kind Refusal → Type 0
IsKindOf byte r = MatchResult r (λ k. byte ≡ Ok (code_of k)) (λ why. byte ≡ Err why)

-- two operands: 1
abbrev pub pair_of : List ℕ → Result (ℕ × ℕ) Refusal
pair_of bs = with_byte (byte_of bs) (λ x. with_byte (byte_of (drop 1 bs)) (λ y. Ok (x, y)))

-- the operands of a command: 1
unfoldable pub operands_of : ℕ → List ℕ → Result Command Refusal
operands_of command bs =
    with_byte (byte_of bs) (λ x.
    cond (eqb command 1)
    (Ok (Nodes x))
    (with_byte (byte_of (drop 1 bs)) (λ y. Ok (cond (eqb command 2) (Tree x y) (cond (eqb command 3) (Dominance x y) (Label x y))))))

-- the command that the bytes begin with
unfoldable pub step_of : Form → Bool → List ℕ → Result Command Refusal
step_of form first bs =
    with_byte (command_of form first bs) (λ b. cond (eqb b 0) (Ok End) (cond (eqb b 6) (Ok Differ) (operands_of b (drop 1 bs))))

abbrev pub step_at : Form → List ℕ → ℕ → Result Command Refusal
step_at form s at = step_of form (eqb at 0) (drop at s)

-- "a run of commands of one byte with one-byte operands"
abbrev pub width : Command → ℕ
width (Nodes n) = 2
width (Tree p c) = 3
width (Dominance l r) = 3
width (Label p s) = 3
width Differ = 1
width End = 1

-- one that is refused is not passed
abbrev pub width_of : Result Command Refusal → ℕ
width_of (Ok command) = width command
width_of (Err why) = 0
