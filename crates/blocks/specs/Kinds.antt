-- The gates of the blocks, each as the word of its kind over the nets it reads. `ao` is kind 8: first AND second, OR third AND fourth.
use Rattle.std.specs.Prelude.{[], ◌∷◌, ℕ}
use Rattle.words.specs.Word.{word}

abbrev pub inv : ℕ → ℕ
inv a = word 1 (a ∷ [])

abbrev pub and2 : ℕ → ℕ → ℕ
and2 a b = word 2 (a ∷ b ∷ [])

abbrev pub and3 : ℕ → ℕ → ℕ → ℕ
and3 a b c = word 2 (a ∷ b ∷ c ∷ [])

abbrev pub and4 : ℕ → ℕ → ℕ → ℕ → ℕ
and4 a b c d = word 2 (a ∷ b ∷ c ∷ d ∷ [])

abbrev pub or2 : ℕ → ℕ → ℕ
or2 a b = word 4 (a ∷ b ∷ [])

abbrev pub or4 : ℕ → ℕ → ℕ → ℕ → ℕ
or4 a b c d = word 4 (a ∷ b ∷ c ∷ d ∷ [])

abbrev pub nor3 : ℕ → ℕ → ℕ → ℕ
nor3 a b c = word 5 (a ∷ b ∷ c ∷ [])

abbrev pub ao : ℕ → ℕ → ℕ → ℕ → ℕ
ao a b c d = word 8 (a ∷ b ∷ c ∷ d ∷ [])
