-- The number of what emission answers is the one that 01's table gives: each test that the answer goes by is one that the table goes by.
use Prim.Native.Nat.{ℕ}
use Rattle.std.specs.Prelude.{Ok, Err}
use mathlib.Core.Bool.{Bool, true, false, not, cond}
use mathlib.Core.Path.{◌≡◌, refl}
use lib.Dec.{ltb}
use lib.ListN.{length}
use Rattle.values.specs.Entries.{entry_good}
use Rattle.values.specs.Words.{entry_reserved}
use Rattle.values.specs.Flags.{stage_flags_bad, variant_flags_bad}
use Rattle.values.specs.declared.Key.{Key}
use Rattle.values.specs.declared.Variant.{Variant}
use Rattle.values.specs.declared.Entry.{Entry}
use Rattle.values.specs.declared.Emitted.{Emitted}
use Rattle.values.specs.declared.Refusal.TheVariants.{StageFlags, VariantFlags, EntryName, ReservedWord, NoRoom}
use Rattle.values.specs.Refusals.{answer_number}
use Rattle.shader.specs.Results.{text_of, emitted_of, answer_of, emission_number}

numbered : (three five six thirteen eight : Bool) (m : Emitted)
    → answer_number (cond three (Err StageFlags) (cond five (Err VariantFlags) (cond six (Err EntryName)
    (cond thirteen (Err ReservedWord) (cond eight (Err NoRoom) (Ok m))))))
    ≡ cond three 3 (cond five 5 (cond six 6 (cond thirteen 13 (cond eight 8 0))))
numbered true five six thirteen eight m = refl
numbered false true six thirteen eight m = refl
numbered false false true thirteen eight m = refl
numbered false false false true eight m = refl
numbered false false false false true m = refl
numbered false false false false false m = refl

pub number_of_answer : (k : Key) (v : Variant) (e : Entry) (room : ℕ) → answer_number (answer_of k v e room) ≡ emission_number k v e room
unfolding answer_of emission_number
number_of_answer k v e room =
    numbered (stage_flags_bad k.stages) (variant_flags_bad v) (not (entry_good e)) (entry_reserved e) (ltb room (length (text_of k v e))) (emitted_of k v e)
