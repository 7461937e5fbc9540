-- Statement. Laws about records that are read.
use Rattle.std.specs.Prelude.{◌≡◌, ◌++◌, ℕ, List}
use Rattle.pb_readback.specs.declared.block.Block.{Block}
use Rattle.pb_readback.specs.Next.{AreBlocks, IsFound, IsNext, Next}
use Rattle.pb_readback.specs.WellFormed.{IsWellFormedBlock}

-- exactly one thing comes next in records
pub record NextLaw : Type 0 where
  pub some : (at : ℕ) (records : List (List (List ℕ))) → (next : Next) × IsNext at records next
  pub only : (at : ℕ) (records : List (List (List ℕ))) (one other : Next) → IsNext at records one → IsNext at records other
      → one ≡ other

-- the blocks of two lists of records put together are the blocks of the first list and then the blocks of the second
abbrev pub JoinLaw : Type 0
JoinLaw =
    (front back : List (List (List ℕ))) (blocks more : List Block) → AreBlocks front blocks → AreBlocks back more
    → AreBlocks (front ++ back) (blocks ++ more)

-- a block that is read is well formed
abbrev pub FormedBlockLaw : Type 0
FormedBlockLaw = (records rest : List (List (List ℕ))) (block : Block) → IsFound records block rest → IsWellFormedBlock block
