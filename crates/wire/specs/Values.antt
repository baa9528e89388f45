-- What a record holds of a key.
use Rattle.std.specs.Prelude.{Bool, true, false, cond, map}
use Rattle.values.specs.declared.Key.{Key}
use Rattle.values.specs.Kinds.{seven_bytes}
use Rattle.wire.specs.declared.Record.{Record}
use Rattle.wire.specs.declared.Record.TheVariants as rec

-- the record of a key, of the key's own kind
abbrev pub key_record : Key → Record
key_record k = cond k.wide (rec.WideKey k) (rec.Key k)

-- What a record of each kind holds of a key: one of kind 1 has no place for arguments 0, which are their default when it is read.
abbrev pub key_as : Bool → Key → Key
key_as wide k =
    record {
      stages = cond wide k.stages (map seven_bytes k.stages);
      specular_add = k.specular_add;
      projected = k.projected;
      wide = wide;
    }

-- what is read of a record that was written
abbrev pub own : Record → Record
own (rec.Key k) = rec.Key (key_as false k)
own (rec.Variant v) = rec.Variant v
own (rec.Entry e) = rec.Entry e
own rec.Emit = rec.Emit
own (rec.State w) = rec.State w
own (rec.WideKey k) = rec.WideKey (key_as true k)
