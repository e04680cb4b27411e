-- "The constant table 8, 10, 12, 14, 16, 20, 24, 28, .. 56K, 64K": the class sizes, for a reader to look at. The rule is `Class.size`, and
-- no definition uses the table; that each entry is its class's size, and the greatest payload of its class, is proved once over all 53
-- (`table-size`, `table-class`).
use Rattle.std.specs.Prelude.{List, [], ◌∷◌, ℕ}

abbrev pub sizes : List ℕ
sizes =
    8 ∷ 10 ∷ 12 ∷ 14 ∷ 16 ∷ 20 ∷ 24 ∷ 28 ∷ 32 ∷ 40 ∷ 48 ∷ 56 ∷
    64 ∷ 80 ∷ 96 ∷ 112 ∷ 128 ∷ 160 ∷ 192 ∷ 224 ∷ 256 ∷ 320 ∷ 384 ∷ 448 ∷
    512 ∷ 640 ∷ 768 ∷ 896 ∷ 1024 ∷ 1280 ∷ 1536 ∷ 1792 ∷ 2048 ∷ 2560 ∷ 3072 ∷ 3584 ∷
    4096 ∷ 5120 ∷ 6144 ∷ 7168 ∷ 8192 ∷ 10240 ∷ 12288 ∷ 14336 ∷ 16384 ∷ 20480 ∷ 24576 ∷ 28672 ∷
    32768 ∷ 40960 ∷ 49152 ∷ 57344 ∷ 65536 ∷ []
