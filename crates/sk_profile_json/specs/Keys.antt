-- The keys of a profile's fields: config-linux.md of the OCI runtime specification, section "Seccomp", and what docker's
-- and podman's profiles have beside them; and those of documents with a profile in them.
use Rattle.std.specs.Prelude.{ℕ, List, codes}
use Rattle.sk_profile_json.specs.declared.fault.Field.{Field}
use Rattle.sk_profile_json.specs.declared.fault.Field.TheVariants as field

abbrev pub key_of : Field → List ℕ
key_of field.DefaultAction = codes "defaultAction"
key_of field.DefaultErrnoRet = codes "defaultErrnoRet"
key_of field.DefaultErrno = codes "defaultErrno"
key_of field.Architectures = codes "architectures"
key_of field.ArchMap = codes "archMap"
key_of field.Architecture = codes "architecture"
key_of field.SubArchitectures = codes "subArchitectures"
key_of field.Flags = codes "flags"
key_of field.ListenerPath = codes "listenerPath"
key_of field.ListenerMetadata = codes "listenerMetadata"
key_of field.Syscalls = codes "syscalls"
key_of field.Names = codes "names"
key_of field.Name = codes "name"
key_of field.Action = codes "action"
key_of field.ErrnoRet = codes "errnoRet"
key_of field.Errno = codes "errno"
key_of field.Args = codes "args"
key_of field.Comment = codes "comment"
key_of field.Includes = codes "includes"
key_of field.Excludes = codes "excludes"
key_of field.Arches = codes "arches"
key_of field.Caps = codes "caps"
key_of field.MinKernel = codes "minKernel"
key_of field.Index = codes "index"
key_of field.Value = codes "value"
key_of field.ValueTwo = codes "valueTwo"
key_of field.Op = codes "op"
key_of field.Linux = codes "linux"
key_of field.Seccomp = codes "seccomp"
key_of field.Spec = codes "spec"
key_of field.HostConfig = codes "HostConfig"
key_of field.SecurityOpt = codes "SecurityOpt"
