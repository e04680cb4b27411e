-- What a sheet writes over bytes are bytes: each is one of a word's four, or an old one.
use mathlib.Core.List.{List}
use mathlib.Core.Option.{Option, none, some}
use Prim.Native.Nat.{◌%◌, ◌*◌, ◌/◌, ◌<◌, ◌^◌, ℕ}
use native.Mathlib.Omega.{arith}
use lib.ListN.{get_or-eq_default, get_or, length}
use Rattle.paper.proofs.sheet.Written.{get_or-write, length-write}
use Rattle.paper.specs.Sheet.{Sheet, byte, pick, write}
use Rattle.words.specs.Choice.{by<}
use Rattle.words.specs.Words.{Bytes}

byte_of : (w : ℕ) → w % 256 < 256
byte_of w = omega arith

pick-byte : (o : Option ℕ) (j x : ℕ) → x < 256 → pick o j x < 256
pick-byte none j x h = h
pick-byte (some v) j x h = byte_of (v / 256 ^ j)

pub write_bytes : (g : Sheet) (bs : List ℕ) → Bytes bs → Bytes (write g bs)
unfolding byte
write_bytes g bs h i =
    by< i (length bs)
    (λ l. omega (arith, get_or-write g bs i l, pick-byte (g (i / 4 * 4)) (i % 4) (get_or bs i 0) (h i)))
    (λ l. omega (arith, get_or-eq_default (write g bs) 0 {n = i} (omega (arith, length-write g bs))))
